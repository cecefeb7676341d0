use Rattle.std.proofs.Common.{ap}
use Rattle.wac_component.specs.Collection.{WorldContent}
use Rattle.wac_component.specs.Content.{world_content}
use Rattle.wac_component.proofs.Members.{world_uses_stand, world_exports_stand}
use Rattle.wac_aggregator_taking.proofs.Made.{may_put_world}
use Rattle.wac_aggregator_taking.proofs.worlds.make_world.Goals as goal

pub put_world-requires-clause-taken : goal.put_world-requires-clause-taken
put_world-requires-clause-taken c =
    let x = world_content c.index.result.now in
    may_put_world c.args.types.now c.args.state.now c.sound.ensures c.requires.state c.args.id x _ _ c.index.ensures.entry (world_uses_stand c.args.types.now x c.index.ensures.standing) (world_exports_stand c.args.types.now x c.index.ensures.standing)
    c.requires.has (ap (λ (y : WorldContent). y.uses) c.in_ok-uses.ensures) (ap (λ (y : WorldContent). y.exports) c.in_ok-uses.ensures) c.requires.new
