use Rattle.std.proofs.Common.{◌≡◌, ◌∙◌, false, true, refl, subst, sym}
use Rattle.std.proofs.lemmas.Slice.Eq.{bytes_eq-Decides}
use Rattle.wac_wit_refusals_worlds.specs.Brought.{IsRenamedTo, as_before, newly_named}
use Rattle.wac_wit_refusals_worlds.proofs.ComingFacts.{renamed_end, renamed_next, renamed_none}
use Rattle.wac_wit_refusals_sites.proofs.TypeFacts.{at_read}
use Rattle.wac_wit_refusals_worlds.proofs.coming.new_name.Goals as goal

pub loop-rename-init : goal.loop-rename-init
loop-rename-init c = renamed_none c.args.renames.now c.args.name.now

pub loop-rename-preserved : goal.loop-rename-preserved
loop-rename-preserved c =
    let rename = c.rename-item.result in
    renamed_next c.args.renames.now c.loop-rename.rename-index c.args.name.now rename (at_read c.args.renames.now c.loop-rename.rename-index rename rename c.loop-rename-test.true c.rename-item.is refl)
    (λ named. let yes : c.eq.result ≡ true = c.eq.ensures ∙ (bytes_eq-Decides _ _).1 named in let no : c.eq.result ≡ false = c.if-eq.false in absurd (cc))
    c.loop-rename.invariant

pub returns-then-eq : goal.returns-then-eq
returns-then-eq c =
    let rename = c.rename-item.result in
    subst (IsRenamedTo c.args.renames.now c.args.name.now) (sym c.local_name.ensures)
    (newly_named c.loop-rename.rename-index rename (at_read c.args.renames.now c.loop-rename.rename-index rename rename c.loop-rename-test.true c.rename-item.is refl) ((bytes_eq-Decides _ _).0 (sym c.eq.ensures ∙ c.if-eq.true)) c.loop-rename.invariant)

pub returns : goal.returns
returns c = as_before (renamed_end c.args.renames.now c.loop-rename.rename-index c.args.name.now c.loop-rename-test.false c.loop-rename.invariant)
