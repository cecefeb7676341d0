use Rattle.wac_wit_refusals_worlds.specs.NeededSteps.{IsWithinWorld}
use Rattle.wac_wit_refusals_worlds.specs.NeededTwice.{the_world}
use Rattle.wac_wit_refusals_sites.proofs.TypeFacts.{none_among}
use Rattle.wac_wit_refusals_worlds.proofs.worlds.worlds_within.Goals as goal

pub returns-then-branch : goal.returns-then-branch
returns-then-branch c of knows =
    let world = c.args.world.now in
    let puts = c.in_ok-push_within.ensures c.if-branch.true of knows in
    record { within = puts.adds world the_world (none_among (IsWithinWorld of world) c.new-worlds.result.items c.new-worlds.ensures.items); all = puts.all }
