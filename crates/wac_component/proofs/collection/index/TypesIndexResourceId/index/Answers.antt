use Rattle.wac_component.proofs.Reading.{resource_standing, resource_lower}
use Rattle.wac_component.proofs.Trees.{root_name-entry}
use Rattle.wac_component.proofs.collection.index.TypesIndexResourceId.index.Goals as goal

pub returns-clause-name : goal.returns-clause-name
returns-clause-name c = root_name-entry _ _ _ c.resource_entry.ensures.sound c.requires c.resource_entry.ensures.entry

pub returns-clause-standing : goal.returns-clause-standing
returns-clause-standing c = resource_standing _ _ _ c.resource_entry.ensures.sound c.requires c.resource_entry.ensures.entry

pub returns-clause-lower : goal.returns-clause-lower
returns-clause-lower c = resource_lower _ _ _ c.resource_entry.ensures.sound c.requires c.resource_entry.ensures.entry
