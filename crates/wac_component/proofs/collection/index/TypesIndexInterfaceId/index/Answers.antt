use Rattle.wac_component.proofs.Reading.{interface_standing, interface_lower}
use Rattle.wac_component.proofs.Trees.{interface-externs}
use Rattle.wac_component.proofs.collection.index.TypesIndexInterfaceId.index.Goals as goal

pub returns-clause-tree : goal.returns-clause-tree
returns-clause-tree c = interface-externs _ _ _ c.interface_entry.ensures.sound c.requires c.interface_entry.ensures.entry

pub returns-clause-standing : goal.returns-clause-standing
returns-clause-standing c = interface_standing _ _ _ c.interface_entry.ensures.sound c.requires c.interface_entry.ensures.entry

pub returns-clause-lower : goal.returns-clause-lower
returns-clause-lower c = interface_lower _ _ _ c.interface_entry.ensures.sound c.requires c.interface_entry.ensures.entry
