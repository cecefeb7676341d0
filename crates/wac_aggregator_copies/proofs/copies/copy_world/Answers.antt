use Rattle.std.proofs.Common.{ap}
use Rattle.wac_component.specs.Content.{world_content}
use Rattle.wac_component.specs.Key.{world_key}
use Rattle.wac_aggregator_copies.proofs.Made.{stands_world, made_world}
use Rattle.wac_aggregator_copies.proofs.copies.copy_world.Goals as goal

pub add_world-requires : goal.add_world-requires
add_world-requires c = stands_world c.args.types.now c.args.own.now c.args.copies.now c.sound.ensures c.requires.state c.args.id (world_content c.index.result.now) (world_content c.in_ok-renamed.renamed) c.requires.source c.index.ensures.entry c.requires.parts c.in_ok-renamed.ensures

pub returns : goal.returns
returns c = made_world c.args.types.now c.args.own.now c.args.copies.now c.sound.ensures c.requires.state c.args.id (world_content c.index.result.now) (world_content c.in_ok-renamed.renamed) c.requires.source c.index.ensures.entry c.requires.parts c.in_ok-renamed.ensures
    c.add_world.new.self c.put_world.new.self (world_key c.in_ok-copy.copy) c.in_ok-copy.ensures.added (ap world_key c.in_ok-copy.ensures.id) (c.in_ok-put_world.ensures c.requires.new)
