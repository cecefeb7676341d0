use Rattle.wac_component.specs.Content.{types_of}
use Rattle.wac_component.proofs.PartLemmas.{placed-values, placed-cases}
use Rattle.wac_component.proofs.defined.DefinedType.parts.Goals as goal

pub returns-in-Tuple : goal.returns-in-Tuple
returns-in-Tuple c = rw (c.in-Tuple.is, c.deref.ensures.value) (placed-values c.in-Tuple.items.items)

pub returns-in-Variant : goal.returns-in-Variant
returns-in-Variant c = rw c.in-Variant.is (placed-cases c.in-Variant.variant.cases.entries)

pub returns-in-Record : goal.returns-in-Record
returns-in-Record c = rw c.in-Record.is (placed-values (types_of c.in-Record.record.fields.entries))
