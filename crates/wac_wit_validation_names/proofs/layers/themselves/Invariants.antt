use Rattle.std.proofs.Common.{[]}
use Rattle.wac_wit_validation_types.specs.Reading.{AreNamesBy}
use Rattle.wac_wit_validation_names.proofs.layers.themselves.Given as goal

abbrev pub invariant-loop-item : goal.invariant-loop-item
invariant-loop-item l = AreNamesBy l.names []
