use Rattle.wac_targets.proofs.Reported.{world_content_of-entry}
use Rattle.wac_wit_changes.proofs.checking.standing_world.Goals as goal

pub returns-clause-is : goal.returns-clause-is
returns-clause-is c = record { content = world_content_of-entry c.args.types.now c.args.id _ c.index.ensures.entry; trees = c.index.ensures.tree }
