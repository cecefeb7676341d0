use Rattle.wac_component.specs.Key.{Stands}
use Rattle.wac_item_text.proofs.Keys.{item_stands}
use Rattle.wac_item_text.proofs.items.push_named.Goals as goal

pub push_item-requires-clause-item : goal.push_item-requires-clause-item
push_item-requires-clause-item c = item_stands (Stands c.args.types.now) c.args.items.now.entries _ c.item_at.result c.item_at.ensures c.requires.items
