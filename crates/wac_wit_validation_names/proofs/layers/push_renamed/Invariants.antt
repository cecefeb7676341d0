use Rattle.wac_wit_validation_names.proofs.RenamedLayers.{AddsRenamed}
use Rattle.wac_wit_validation_names.proofs.layers.push_renamed.Given as goal

abbrev pub invariant-loop-layer : goal.invariant-loop-layer
invariant-loop-layer l = AddsRenamed l.inside l.by l.initial.layers.items l.layers.items l.layer-index
