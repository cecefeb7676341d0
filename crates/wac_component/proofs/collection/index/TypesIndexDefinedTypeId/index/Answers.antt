use Rattle.wac_component.proofs.Reading.{defined_standing, defined_lower}
use Rattle.wac_component.proofs.Trees.{value_tree-entry}
use Rattle.wac_component.proofs.collection.index.TypesIndexDefinedTypeId.index.Goals as goal

pub returns-clause-tree : goal.returns-clause-tree
returns-clause-tree c = value_tree-entry _ _ _ c.defined_entry.ensures.sound c.requires c.defined_entry.ensures.entry

pub returns-clause-standing : goal.returns-clause-standing
returns-clause-standing c = defined_standing _ _ _ c.defined_entry.ensures.sound c.requires c.defined_entry.ensures.entry

pub returns-clause-lower : goal.returns-clause-lower
returns-clause-lower c = defined_lower _ _ _ c.defined_entry.ensures.sound c.requires c.defined_entry.ensures.entry
