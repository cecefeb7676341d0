-- The word, the sign behind it and a name.
use Rattle.std.proofs.Common.{ℕ, true, codes}
use Rattle.wac_wit_syntax.specs.Completing.{AnyOf}
use Rattle.wac_wit_syntax.specs.Gates.{IsGateField}
use Rattle.wac_wit_syntax.specs.Productions.{◌▸◌, IsKind, IsName, IsWord, Source}
use Rattle.wac_wit_syntax.specs.declared.token.TokenKind.TheVariants.{Equals}
use Rattle.wac_wit_syntax.proofs.Finishing.{completes_as_failed, completes_eaten, completes_failed, completes_then, completes_weaker, completes_with}
use Rattle.wac_wit_syntax.proofs.gates.read_feature.Goals as goal

parts : (s : Source) (i j : ℕ) → AnyOf (IsGateField true) s i j → (IsWord (codes "feature") ▸ IsKind Equals ▸ AnyOf IsName) s i j
parts s i j p = (p.1.0, p.1.1, (p.1.2.0, p.1.2.1, (record { name = p.0.text; span = p.0.span }, p.1.2.2)))

pub returns-in_err-expect-clause-complete : goal.returns-in_err-expect-clause-complete
returns-in_err-expect-clause-complete c = completes_weaker parts (completes_then (completes_eaten c.args.cursor.now c.eat_word.new.self c.eat_word.result (IsWord (codes "feature")) c.eat_word.ensures.complete)
    (completes_failed (c.in_err-expect.ensures.complete (λ e. cc)) c.from_residual.ensures))

pub returns-in_err-ident-clause-complete : goal.returns-in_err-ident-clause-complete
returns-in_err-ident-clause-complete c = completes_weaker parts (completes_then (completes_eaten c.args.cursor.now c.eat_word.new.self c.eat_word.result (IsWord (codes "feature")) c.eat_word.ensures.complete)
    (completes_then (c.in_ok-expect.ensures.complete (λ e. cc)) (completes_as_failed c.in_err-ident.ensures.complete c.from_residual-in_err-ident.ensures)))

pub returns-clause-complete : goal.returns-clause-complete
returns-clause-complete c = completes_weaker parts (completes_then (completes_eaten c.args.cursor.now c.eat_word.new.self c.eat_word.result (IsWord (codes "feature")) c.eat_word.ensures.complete)
    (completes_then (c.in_ok-expect.ensures.complete (λ e. cc)) (completes_with c.in_ok-ident.ensures.complete)))
