use Rattle.wac_wit.proofs.Listing.{AllBefore}
use Rattle.wac_wit.proofs.packages.are_listed.Given as goal
use Rattle.wac_wit.specs.Read.{IsReadPackage}
use Rattle.wac_wit_validation.specs.WorldChecking.{KnowsWorlds}
use Rattle.wac_wit_scopes.specs.WitSources.{WitSources}

abbrev pub invariant-loop-package : goal.invariant-loop-package
invariant-loop-package l = (of : WitSources) → KnowsWorlds of l.validator → AllBefore (IsReadPackage of l.validator.types.now) l.package-items l.package-index
