use Rattle.std.proofs.Common.{Contains}
use Rattle.wac_wit.specs.Reading.{IsListing}
use Rattle.wac_wit.specs.declared.packages.WitPackage.{WitPackage}
use Rattle.wac_wit_validation.specs.declared.listing.PackageListing.{PackageListing}
use Rattle.wac_wit.proofs.Listing.{AllBefore}
use Rattle.wac_wit.proofs.Listings.{HasListingIn}
use Rattle.wac_wit.proofs.complete.listings.Given as goal

abbrev pub invariant-loop-package : goal.invariant-loop-package
invariant-loop-package l = record {
  each : (x : PackageListing) → Contains l.listed.items x → (p : WitPackage) × Contains l.packages p × IsListing x p;
  all : AllBefore (HasListingIn l.listed.items) l.packages l.package-index;
}
