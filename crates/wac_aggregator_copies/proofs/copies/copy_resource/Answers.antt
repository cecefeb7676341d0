use Rattle.std.proofs.Common.{ap}
use Rattle.wac_component.specs.Content.{resource_content}
use Rattle.wac_component.specs.Key.{resource_key}
use Rattle.wac_aggregator_copies.proofs.Made.{stands_resource, made_resource}
use Rattle.wac_aggregator_copies.proofs.copies.copy_resource.Goals as goal

pub add_resource-requires : goal.add_resource-requires
add_resource-requires c = stands_resource c.args.types.now c.args.own.now c.args.copies.now c.sound.ensures c.requires.state c.args.id (resource_content c.index.result.now) (resource_content c.in_ok-renamed.renamed) c.requires.source c.index.ensures.entry c.requires.parts c.in_ok-renamed.ensures

pub returns : goal.returns
returns c = made_resource c.args.types.now c.args.own.now c.args.copies.now c.sound.ensures c.requires.state c.args.id (resource_content c.index.result.now) (resource_content c.in_ok-renamed.renamed) c.requires.source c.index.ensures.entry c.requires.parts c.in_ok-renamed.ensures
    c.add_resource.new.self c.put_resource.new.self (resource_key c.in_ok-copy.copy) c.in_ok-copy.ensures.added (ap resource_key c.in_ok-copy.ensures.id) (c.in_ok-put_resource.ensures c.requires.new)
