use Rattle.wac_wit_scopes.specs.WitSources.{WitSources}
use Rattle.wac_wit_validation.specs.WorldChecking.{KnowsWorlds}
use Rattle.wac_wit_validation.proofs.LayerFacts.{AreNamingBelow}
use Rattle.wac_wit_validation.proofs.validator.Validator.naming_items.Given as goal

abbrev pub invariant-loop-item : goal.invariant-loop-item
invariant-loop-item l = (of : WitSources) → KnowsWorlds of l.self → AreNamingBelow of l.items l.naming.items l.item-index
