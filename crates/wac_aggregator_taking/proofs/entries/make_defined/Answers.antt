use Rattle.std.proofs.Common.{refl, ap}
use Rattle.wac_component.specs.Content.{defined_content}
use Rattle.wac_component.specs.Key.{defined_key}
use Rattle.wac_aggregator_taking.proofs.Made.{stands_defined, made_defined}
use Rattle.wac_aggregator_taking.proofs.entries.make_defined.Goals as goal

pub add_defined_type-requires : goal.add_defined_type-requires
add_defined_type-requires c = stands_defined c.args.types.now c.args.state.now c.sound.ensures c.requires.state c.args.id (defined_content c.index.result.now) (defined_content c.in_ok-renamed.renamed) c.requires.source c.index.ensures.entry c.requires.parts c.in_ok-renamed.ensures

pub returns : goal.returns
returns c = made_defined c.args.types.now c.args.state.now c.sound.ensures c.requires.state c.args.id (defined_content c.index.result.now) (defined_content c.in_ok-renamed.renamed) c.requires.source c.index.ensures.entry c.requires.parts c.in_ok-renamed.ensures
    (record c.args.state.now { types = c.add_defined_type.new.self; taken = c.put_defined.new.self }) (defined_key c.in_ok-own.own) refl c.in_ok-own.ensures.added (ap defined_key c.in_ok-own.ensures.id) (c.in_ok-put_defined.ensures c.requires.new)
