use Rattle.wac_component.specs.Content.{interface_content, world_content}
use Rattle.wac_component.proofs.Members.{exports_stand, world_imports_stand, world_exports_stand}
use Rattle.wac_item_text.proofs.items.begin_type.Goals as goal

pub push_items-requires-clause-items : goal.push_items-requires-clause-items
push_items-requires-clause-items c = exports_stand c.args.types.now (interface_content c.index-in-Interface.result.now) c.index-in-Interface.ensures.standing

pub push_items-requires-in-World-clause-items : goal.push_items-requires-in-World-clause-items
push_items-requires-in-World-clause-items c = world_exports_stand c.args.types.now (world_content c.index-world.result.now) c.index-world.ensures.standing

pub push_items-requires-in-World-2-clause-items : goal.push_items-requires-in-World-2-clause-items
push_items-requires-in-World-2-clause-items c = world_imports_stand c.args.types.now (world_content c.index-world.result.now) c.index-world.ensures.standing
