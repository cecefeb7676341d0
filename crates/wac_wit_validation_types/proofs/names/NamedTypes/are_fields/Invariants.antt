use Rattle.std.proofs.Common.{take}
use Rattle.std.specs.List.{AllZip}
use Rattle.wac_wit_validation_types.proofs.Fields.{IsFieldAt}
use Rattle.wac_wit_validation_types.proofs.names.NamedTypes.are_fields.Given as goal

abbrev pub invariant-loop-index : goal.invariant-loop-index
invariant-loop-index l = AllZip (IsFieldAt l.self) (take l.index l.fields) (take l.index l.of)
