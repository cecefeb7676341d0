use Rattle.std.proofs.Common.{take}
use Rattle.std.specs.List.{AllZip}
use Rattle.wac_wit_validation_types.proofs.Fields.{IsSpelled}
use Rattle.wac_wit_validation_types.proofs.typedefs.are_names.Given as goal

abbrev pub invariant-loop-index : goal.invariant-loop-index
invariant-loop-index l = AllZip IsSpelled (take l.index l.names) (take l.index l.of.keys)
