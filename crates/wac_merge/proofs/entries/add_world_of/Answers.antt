use Rattle.wac_component.specs.Content.{world_content, named, use_content}
use Rattle.wac_merge.specs.Items.{extern_list}
use Rattle.wac_merge.proofs.ReadLemmas.{world_stands, world_made}
use Rattle.wac_merge.proofs.entries.add_world_of.Goals as goal

pub add_world-requires : goal.add_world-requires
add_world-requires c =
    rw c.with_uses.ensures (world_stands c.args.types.now (named use_content c.in_ok-uses.uses.entries) (extern_list c.args.sides.imports) (extern_list c.args.sides.exports) (world_content c.index.result.now) (world_content c.index-2.result.now)
    c.in_ok-uses.ensures c.index.ensures.standing c.index-2.ensures.standing c.requires.imports c.requires.exports)

pub returns-clause-made : goal.returns-clause-made
returns-clause-made c =
    world_made c.add_world.result c.args.types.now c.add_world.new.self c.args.first c.args.second (named use_content c.in_ok-uses.uses.entries) (extern_list c.args.sides.imports) (extern_list c.args.sides.exports) (world_content c.index.result.now) (world_content c.index-2.result.now)
    c.in_ok-uses.ensures c.index.ensures.entry c.index-2.ensures.entry (rw c.with_uses.ensures at c.add_world.ensures.added) c.add_world.ensures.id c.add_world.ensures.stands (rw c.with_uses.ensures at c.add_world.ensures.tree)
