use Rattle.std.proofs.Common.{List, subst}
use Rattle.std.proofs.lemmas.Result.{IfOk-weaker}
use Rattle.wac_wit_validation.specs.declared.listing.PackageListing.{PackageListing}
use Rattle.wac_wit_validation.specs.Listing.{AreAllListed}
use Rattle.wac_wit.proofs.Listings.{ListsAll-listed}
use Rattle.wac_wit.proofs.complete.lists_all.Goals as goal

pub returns : goal.returns
returns c = IfOk-weaker c.lists_all.result _ _ (λ b told is of knows.
    ListsAll-listed of c.args.packages.now c.in_ok-listed.listed.items c.in_ok-listed.ensures.each c.in_ok-listed.ensures.all (subst (λ (ls : List PackageListing). AreAllListed of ls) c.deref.ensures.value (told is of knows))) c.lists_all.ensures
