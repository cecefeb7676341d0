use Rattle.std.proofs.Common.{◌+◌, ◌++◌, ◌∷◌, [], Contains, List, inl, inr, subst, sym}
use Rattle.std.proofs.lemmas.List.Elements.{Contains-push}
use Rattle.wac_wit.specs.Reading.{IsListing}
use Rattle.wac_wit_validation.specs.declared.listing.PackageListing.{PackageListing}
use Rattle.wac_wit_validation.proofs.FoundFacts.{Contains-last, Contains-nothing}
use Rattle.wac_wit.proofs.Listing.{AllBefore, AllBefore-contains, AllBefore-more, AllBefore-none}
use Rattle.wac_wit.proofs.Listings.{HasListingIn, HasListingIn-more}
use Rattle.wac_wit.proofs.complete.listings.Goals as goal

pub loop-package-init : goal.loop-package-init
loop-package-init c = record {
  each = λ x among. Contains-nothing x (subst (λ (ls : List PackageListing). Contains ls x) c.new-listed.ensures.items among);
  all = AllBefore-none (HasListingIn c.new-listed.result.items) c.args.packages.now;
}

pub loop-package-preserved : goal.loop-package-preserved
loop-package-preserved c =
    let p = c.package-item.result in
    let old = c.loop-package.listed.items in
    let pushed = c.in_ok-push.ensures.items in
    record {
      each = λ x among. elim (Contains-last old c.listing.result x (subst (λ (ls : List PackageListing). Contains ls x) pushed among)) [
        | inl before ↦ c.loop-package.invariant.each x before
        | inr same ↦ (p, (c.loop-package.package-index, c.loop-package-test.true, sym c.package-item.is), subst (λ (l : PackageListing). IsListing l p) same c.listing.ensures)
      ];
      all = subst (λ (ls : List PackageListing). AllBefore (HasListingIn ls) c.args.packages.now (c.loop-package.package-index + 1)) (sym pushed)
          (AllBefore-more (HasListingIn (old ++ c.listing.result ∷ [])) c.args.packages.now c.loop-package.package-index p c.loop-package-test.true c.package-item.is
          (λ k d below. HasListingIn-more old c.listing.result _ (c.loop-package.invariant.all k d below)) (c.listing.result, Contains-push old c.listing.result, c.listing.ensures));
    }

pub returns-clause-each : goal.returns-clause-each
returns-clause-each c = c.loop-package.invariant.each

pub returns-clause-all : goal.returns-clause-all
returns-clause-all c = λ p among. AllBefore-contains (HasListingIn c.loop-package.listed.items) c.args.packages.now c.loop-package.package-index p c.loop-package-test.false c.loop-package.invariant.all among
