use Rattle.wac_component.proofs.Extended.{Extends-trans}
use Rattle.wac_wit_changes.proofs.moves.moved_worlds.Goals as goal

pub returns-in_err-id : goal.returns-in_err-id
returns-in_err-id c = Extends-trans c.args.types.now c.loop-name.types c.moved_world.new.types c.loop-name.invariant c.moved_world.ensures

pub returns-in_err-clone : goal.returns-in_err-clone
returns-in_err-clone c = Extends-trans c.args.types.now c.loop-name.types c.moved_world.new.types c.loop-name.invariant c.moved_world.ensures

pub returns-in_err-insert : goal.returns-in_err-insert
returns-in_err-insert c = Extends-trans c.args.types.now c.loop-name.types c.moved_world.new.types c.loop-name.invariant c.moved_world.ensures

pub loop-name-preserved : goal.loop-name-preserved
loop-name-preserved c = Extends-trans c.args.types.now c.loop-name.types c.moved_world.new.types c.loop-name.invariant c.moved_world.ensures
