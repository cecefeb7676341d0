use Rattle.std.proofs.Common.{take}
use Rattle.std.specs.List.{AllZip}
use Rattle.wac_wit_validation_types.proofs.Fields.{IsCaseAt}
use Rattle.wac_wit_validation_types.proofs.names.NamedTypes.are_cases.Given as goal

abbrev pub invariant-loop-index : goal.invariant-loop-index
invariant-loop-index l = AllZip (IsCaseAt l.self) (take l.index l.cases) (take l.index l.of)
