use Rattle.std.proofs.Common.{is_some}
use Rattle.wac_component.proofs.DistinctNames.{AreDistinct-keys, AreDistinct-names, AreDistinct-named, AreDistinct-other}
use Rattle.wac_component.proofs.laws.names_in_a_defined_type_are_distinct.Goals as goal

pub returns-in-Variant : goal.returns-in-Variant
returns-in-Variant c = rw c.in-Variant.is (AreDistinct-named is_some c.in-Variant.variant.cases.entries c.len.ensures.unique)

pub returns-in-Record : goal.returns-in-Record
returns-in-Record c = rw c.in-Record.is (AreDistinct-names c.in-Record.record.fields.entries c.len-in-Record.ensures.unique)

pub returns-in-Flags : goal.returns-in-Flags
returns-in-Flags c = rw c.in-Flags.is (AreDistinct-keys c.in-Flags.flags.0.keys c.len-in-Flags.ensures.unique)

pub returns-in-Enum : goal.returns-in-Enum
returns-in-Enum c = rw c.in-Enum.is (AreDistinct-keys c.in-Enum.cases.0.keys c.len-in-Enum.ensures.unique)

pub returns-in_default : goal.returns-in_default
returns-in_default c = AreDistinct-other c.args.ty.now c.in_default.not-Variant c.in_default.not-Record c.in_default.not-Flags c.in_default.not-Enum
