use Rattle.wac_component.proofs.Reading.{func_standing, func_lower}
use Rattle.wac_component.proofs.collection.index.TypesIndexFuncTypeId.index.Goals as goal

pub returns-clause-standing : goal.returns-clause-standing
returns-clause-standing c = func_standing _ _ _ c.func_entry.ensures.sound c.requires c.func_entry.ensures.entry

pub returns-clause-lower : goal.returns-clause-lower
returns-clause-lower c = func_lower _ _ _ c.func_entry.ensures.sound c.requires c.func_entry.ensures.entry
