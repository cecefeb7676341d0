use Rattle.wac_component.proofs.Reading.{world_standing, world_lower}
use Rattle.wac_component.proofs.Trees.{world-externs}
use Rattle.wac_component.proofs.collection.index.TypesIndexWorldId.index.Goals as goal

pub returns-clause-tree : goal.returns-clause-tree
returns-clause-tree c = world-externs _ _ _ c.world_entry.ensures.sound c.requires c.world_entry.ensures.entry

pub returns-clause-standing : goal.returns-clause-standing
returns-clause-standing c = world_standing _ _ _ c.world_entry.ensures.sound c.requires c.world_entry.ensures.entry

pub returns-clause-lower : goal.returns-clause-lower
returns-clause-lower c = world_lower _ _ _ c.world_entry.ensures.sound c.requires c.world_entry.ensures.entry
