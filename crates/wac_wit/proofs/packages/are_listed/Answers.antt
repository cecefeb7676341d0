use Rattle.std.proofs.Common.{Contains, List, refl, sym, subst}
use Rattle.wac_wit.proofs.Listing.{AllBefore-contains, AllBefore-more, AllBefore-none}
use Rattle.wac_wit.proofs.packages.are_listed.Goals as goal
use Rattle.wac_wit.specs.Read.{IsReadPackage}
use Rattle.wac_wit.specs.declared.packages.WitPackage.{WitPackage}

pub loop-package-init : goal.loop-package-init
loop-package-init c = λ of knows. AllBefore-none (IsReadPackage of c.args.validator.now.types.now) c.deref-package-items.result.now

pub loop-package-preserved : goal.loop-package-preserved
loop-package-preserved c = λ of knows.
    AllBefore-more (IsReadPackage of c.args.validator.now.types.now) c.deref-package-items.result.now c.loop-package.package-index c.package-item.result c.loop-package-test.true c.package-item.is (c.loop-package.invariant of knows) (c.if-not-is_listed.ensures refl of knows)

pub returns : goal.returns
returns c = λ h of knows p among.
    AllBefore-contains (IsReadPackage of c.args.validator.now.types.now) c.deref-package-items.result.now c.loop-package.package-index p c.loop-package-test.false (c.loop-package.invariant of knows) (subst (λ (l : List WitPackage). Contains l p) (sym c.deref-package-items.ensures.value) among)
