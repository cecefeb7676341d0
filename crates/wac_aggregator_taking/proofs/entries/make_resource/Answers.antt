use Rattle.std.proofs.Common.{refl, ap}
use Rattle.wac_component.specs.Content.{resource_content}
use Rattle.wac_component.specs.Key.{resource_key}
use Rattle.wac_aggregator_taking.proofs.Made.{stands_resource, made_resource}
use Rattle.wac_aggregator_taking.proofs.entries.make_resource.Goals as goal

pub add_resource-requires : goal.add_resource-requires
add_resource-requires c = stands_resource c.args.types.now c.args.state.now c.sound.ensures c.requires.state c.args.id (resource_content c.index.result.now) (resource_content c.in_ok-renamed.renamed) c.requires.source c.index.ensures.entry c.requires.parts c.requires.owner c.in_ok-renamed.ensures

pub returns : goal.returns
returns c = made_resource c.args.types.now c.args.state.now c.sound.ensures c.requires.state c.args.id (resource_content c.index.result.now) (resource_content c.in_ok-renamed.renamed) c.requires.source c.index.ensures.entry c.requires.parts c.requires.owner c.in_ok-renamed.ensures
    (record c.args.state.now { types = c.add_resource.new.self; taken = c.put_resource.new.self }) (resource_key c.in_ok-own.own) refl c.in_ok-own.ensures.added (ap resource_key c.in_ok-own.ensures.id) (c.in_ok-put_resource.ensures c.requires.new)
