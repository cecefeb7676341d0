use Rattle.wac_component.specs.Key.{Stands, item_keys}
use Rattle.wac_component.specs.declared.items.ItemKind.TheVariants.{Func}
use Rattle.wac_vectors_program.proofs.Externs.{Each-inserted}
use Rattle.wac_vectors_program.proofs.sides.under_names.Goals as goal

pub loop-name-preserved : goal.loop-name-preserved
loop-name-preserved c = rw c.in_ok-insert.ensures.entries (Each-inserted (Stands c.args.types.now) item_keys _ c.loop-name.externs.entries c.in_ok-from_str.field-0 (Func c.args.func) c.loop-name.invariant (c.requires, tt))
