use Rattle.std.proofs.Common.{string_bytes, sym}
use Rattle.wac_component.specs.Key.{Stands}
use Rattle.wac_component.proofs.Among.{each_found}
use Rattle.wac_merge.specs.Items.{extern_list}
use Rattle.wac_aggregator_taking.proofs.serving.export_serves.Goals as goal

pub item_serves-requires-clause-existing : goal.item_serves-requires-clause-existing
item_serves-requires-clause-existing c = each_found (Stands c.args.types.now) (extern_list c.args.existing.now) (string_bytes c.args.name.now) c.in-Some.given (sym c.in-Some.ensures) c.requires.existing

pub returns-clause-served : goal.returns-clause-served
returns-clause-served c = λ yes. (c.in-Some.given, sym c.in-Some.ensures, c.item_serves.ensures.served yes)
