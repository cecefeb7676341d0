-- The word, and the name behind it.
use Rattle.std.proofs.Common.{ℕ, false, codes, Option, Some, None, sym, subst}
use Rattle.wac_wit_syntax.specs.Completing.{AnyOf, NotBeforeWord}
use Rattle.wac_wit_syntax.specs.Cursors.{source}
use Rattle.wac_wit_syntax.specs.Interfaces.{IsAlias}
use Rattle.wac_wit_syntax.specs.Productions.{◌▸◌, IsName, IsWord, SaysWord, Source}
use Rattle.wac_wit_syntax.specs.declared.tree.Ident.{Ident}
use Rattle.wac_wit_syntax.proofs.Finishing.{completes_as_failed, completes_eaten, completes_from, completes_then, completes_with}
use Rattle.wac_wit_syntax.proofs.interfaces.read_alias.Goals as goal

by_alias : (s : Source) (i j : ℕ) (alias : Option Ident) → SaysWord s i (codes "as") → IsAlias false alias s i j → (SaysWord s j (codes "as") → ⊥) → (IsWord (codes "as") ▸ AnyOf IsName) s i j
by_alias s i j (Some id) says h ends = (h.0, h.1, (id, h.2))
by_alias s i j None says h ends = absurd (ends (subst (λ k. SaysWord s k (codes "as")) (sym h) says))

aliased : (s : Source) (i j : ℕ) → SaysWord s i (codes "as") → NotBeforeWord (codes "as") (AnyOf (IsAlias false)) s i j → (IsWord (codes "as") ▸ AnyOf IsName) s i j
aliased s i j says p = by_alias s i j p.0.0 says p.0.1 p.1

pub returns-in_err-ident-clause-complete : goal.returns-in_err-ident-clause-complete
returns-in_err-ident-clause-complete c =
    completes_from (λ j p. aliased (source c.args.cursor.now) c.args.cursor.now.next j (c.eat_word.ensures.seen (λ e. cc) c.if-not-eat_word.false) p)
    (completes_then (completes_eaten c.args.cursor.now c.eat_word.new.self c.eat_word.result (IsWord (codes "as")) c.eat_word.ensures.complete) (completes_as_failed c.in_err-ident.ensures.complete c.from_residual.ensures))

pub returns-clause-complete : goal.returns-clause-complete
returns-clause-complete c =
    completes_from (λ j p. aliased (source c.args.cursor.now) c.args.cursor.now.next j (c.eat_word.ensures.seen (λ e. cc) c.if-not-eat_word.false) p)
    (completes_then (completes_eaten c.args.cursor.now c.eat_word.new.self c.eat_word.result (IsWord (codes "as")) c.eat_word.ensures.complete) (completes_with c.in_ok-ident.ensures.complete))
