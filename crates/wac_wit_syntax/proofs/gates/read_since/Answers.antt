-- The word, the sign behind it and a version.
use Rattle.std.proofs.Common.{ℕ, false, codes}
use Rattle.wac_wit_syntax.specs.Completing.{AnyOf}
use Rattle.wac_wit_syntax.specs.Gates.{IsGateField}
use Rattle.wac_wit_syntax.specs.Paths.{IsVersion}
use Rattle.wac_wit_syntax.specs.Productions.{◌▸◌, IsKind, IsWord, Source}
use Rattle.wac_wit_syntax.specs.declared.token.TokenKind.TheVariants.{Equals}
use Rattle.wac_wit_syntax.proofs.Finishing.{completes_eaten, completes_failed, completes_then, completes_weaker}
use Rattle.wac_wit_syntax.proofs.gates.read_since.Goals as goal

parts : (s : Source) (i j : ℕ) → AnyOf (IsGateField false) s i j → (IsWord (codes "version") ▸ IsKind Equals ▸ AnyOf IsVersion) s i j
parts s i j p = (p.1.0, p.1.1, (p.1.2.0, p.1.2.1, (p.0, p.1.2.2)))

pub returns-in_err-expect-clause-complete : goal.returns-in_err-expect-clause-complete
returns-in_err-expect-clause-complete c = completes_weaker parts (completes_then (completes_eaten c.args.cursor.now c.eat_word.new.self c.eat_word.result (IsWord (codes "version")) c.eat_word.ensures.complete)
    (completes_failed (c.in_err-expect.ensures.complete (λ e. cc)) c.from_residual.ensures))

pub returns-clause-complete : goal.returns-clause-complete
returns-clause-complete c = completes_weaker parts (completes_then (completes_eaten c.args.cursor.now c.eat_word.new.self c.eat_word.result (IsWord (codes "version")) c.eat_word.ensures.complete)
    (completes_then (c.in_ok-expect.ensures.complete (λ e. cc)) c.read_version.ensures.complete))
