use Rattle.wac_component.proofs.Members.{AllStand-member}
use Rattle.wac_item_text.proofs.values.push_items.Goals as goal

pub push_value-requires-clause-ty : goal.push_value-requires-clause-ty
push_value-requires-clause-ty c = AllStand-member c.args.types.now c.args.items.now _ c.item_at.result c.item_at.ensures c.requires.items
