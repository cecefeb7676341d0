use Rattle.std.proofs.Common.{take}
use Rattle.std.specs.Prelude.{All}
use Rattle.indexmap.specs.IndexMap.{get_by_text}
use Rattle.wac_wit_scopes.specs.WitSources.{package_id}
use Rattle.wac_wit_validation_names.proofs.AmbiguityFacts.{IsFreeItem}
use Rattle.wac_wit_validation_names.proofs.ambiguity.are_free.Given as goal

abbrev pub invariant-loop-item : goal.invariant-loop-item
invariant-loop-item l = All (IsFreeItem (get_by_text l.noted) (package_id l.package)) (take l.item-index l.items)
