use Rattle.std.proofs.Common.{Contains}
use Rattle.wac_component.specs.Content.{world_content}
use Rattle.wac_wit_validation_types.proofs.MarkFacts.{AllBelow}
use Rattle.wac_wit_validation_types.specs.Placed.{PlacedWorld}
use Rattle.wac_wit_scopes.specs.WitSources.{WitSources}
use Rattle.wac_wit_validation.specs.WorldChecking.{IsLayerIn, KeepsBoth, KnowsWorlds}
use Rattle.wac_wit_validation.specs.WorldClauses.{CoversLayer}
use Rattle.wac_wit_validation_names.specs.declared.layers.Layer.{Layer}
use Rattle.wac_wit_validation.proofs.validator.Validator.are_layers.Given as goal

abbrev pub invariant-loop-index : goal.invariant-loop-index
invariant-loop-index l = record {
  marks : (of : WitSources) (w : PlacedWorld) → KnowsWorlds of l.self → ((x : Layer) → Contains l.layers x → IsLayerIn of l.self w x) → KeepsBoth of l.self w (world_content l.entry) l.initial.marks l.marks;
  covers : AllBelow (CoversLayer l.self (world_content l.entry)) l.layers l.index;
}
