use Rattle.std.proofs.Common.{◌≡◌, Contains, take, Bool, true, false, not, refl, sym, ◌∙◌}
use Rattle.std.specs.List.{list_any}
use Rattle.std.proofs.lemmas.List.Elements.{Contains-append_right}
use Rattle.wac_checker_parts.specs.contracts.parts.EntryPairPartialEq.TheImpl.{ghosts}
use Rattle.wac_checker_parts.proofs.KnownLemmas.{set_has, set_new}
use Rattle.wac_checker.proofs.known.Known.add.Goals as goal

not_false : (b : Bool) → not b ≡ false → b ≡ true
not_false true h = refl
not_false false h = absurd (cc)

not_true : (b : Bool) → not b ≡ true → b ≡ false
not_true true h = absurd (cc)
not_true false h = refl

pub returns-clause-there : goal.returns-clause-there
returns-clause-there c e =
    let told : c.in_ok-insert.field-0 ≡ false = cc in
    let hit = not_false (list_any (ghosts.eq c.args.pair.now) c.args.self.now.many.keys) (sym c.in_ok-insert.ensures.added ∙ told) in
    Contains-append_right (take c.args.self.now.len c.args.self.now.few) c.args.self.now.many.keys c.args.pair.now (set_has c.args.self.now.many.keys c.args.pair.now hit)

pub returns-clause-new : goal.returns-clause-new
returns-clause-new c e m =
    let few = take c.args.self.now.len c.args.self.now.few in
    let none : Contains few c.args.pair.now → ⊥ = (λ n. let there : c.is_among.result ≡ true = c.is_among.ensures.1 (rw c.few.ensures n) in absurd (cc (there, c.if-is_among.false))) in
    let told : c.in_ok-insert.field-0 ≡ true = cc in
    let miss = not_true (list_any (ghosts.eq c.args.pair.now) c.args.self.now.many.keys) (sym c.in_ok-insert.ensures.added ∙ told) in
    set_new few c.args.self.now.many.keys c.args.pair.now none miss m
