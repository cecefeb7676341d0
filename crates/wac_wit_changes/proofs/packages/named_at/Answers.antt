use Rattle.std.proofs.Common.{◌≡◌, Some, refl, rules, slice_get, subst}
use Rattle.std.proofs.lemmas.Option.{slice_get_read}
use Rattle.wac_wit_changes.proofs.packages.named_at.Goals as goal

pub returns-in-Some : goal.returns-in-Some
returns-in-Some c =
    let lookup = c.in-Some.ensures.lookup in
    let read = slice_get_read c.deref.result.now _ c.args.index c.in-Some.package.now refl lookup.3.0 lookup.1 in
    (subst (λ ps. slice_get ps c.args.index ≡ Some c.in-Some.package.now) c.deref.ensures.value read, search rules)
