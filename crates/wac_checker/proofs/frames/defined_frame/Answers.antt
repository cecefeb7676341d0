use Rattle.wac_checker_parts.proofs.PartLemmas.{case_count, field_count, case_frame_at}
use Rattle.wac_checker.proofs.frames.defined_frame.Goals as goal

pub name_of-requires : goal.name_of-requires
name_of-requires c = case_count c.args.types.now c.in-Variant.variant.cases.entries c.args.index (rw (c.index.ensures.tree, c.in-Variant.is) at c.requires.within)

pub name_of-requires-in-Record : goal.name_of-requires-in-Record
name_of-requires-in-Record c = field_count c.args.types.now c.in-Record.record.fields.entries c.args.index (rw (c.index.ensures.tree, c.in-Record.is) at c.requires.within)

pub returns-in_ok-name_of-in-Variant : goal.returns-in_ok-name_of-in-Variant
returns-in_ok-name_of-in-Variant c = rw (c.index.ensures.tree, c.in-Variant.is) (case_frame_at c.args.types.now c.in-Variant.variant.cases.entries c.args.index c.in_ok-name_of-in-Variant.field-0 c.in_ok-name_of-in-Variant.ensures.name)
