use Rattle.wac_wit_refusals_sites.specs.Judging.{Judges}
use Rattle.wac_wit_refusals_types.specs.NamesTwice.{TakesName}
use Rattle.wac_wit_refusals_sites.specs.Sites.{interface_items}
use Rattle.wac_wit_refusals_types.specs.TypeSteps.{AreTaken}
use Rattle.wac_wit_scopes.specs.WitSources.{WitSources}
use Rattle.wac_wit_refusals_types.proofs.taken_names.push_func_names.Given as goal

abbrev pub invariant-loop-index : goal.invariant-loop-index
invariant-loop-index l = (of : WitSources) → Judges of l.judge → AreTaken (TakesName of (interface_items l.items)) l.initial.names.items → AreTaken (TakesName of (interface_items l.items)) l.names.items
