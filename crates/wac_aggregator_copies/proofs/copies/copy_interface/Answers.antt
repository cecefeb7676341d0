use Rattle.std.proofs.Common.{ap}
use Rattle.wac_component.specs.Content.{interface_content}
use Rattle.wac_component.specs.Key.{interface_key}
use Rattle.wac_aggregator_copies.proofs.Made.{stands_interface, made_interface}
use Rattle.wac_aggregator_copies.proofs.copies.copy_interface.Goals as goal

pub add_interface-requires : goal.add_interface-requires
add_interface-requires c = stands_interface c.args.types.now c.args.own.now c.args.copies.now c.sound.ensures c.requires.state c.args.id (interface_content c.index.result.now) (interface_content c.in_ok-renamed.renamed) c.requires.source c.index.ensures.entry c.requires.parts c.in_ok-renamed.ensures

pub returns : goal.returns
returns c = made_interface c.args.types.now c.args.own.now c.args.copies.now c.sound.ensures c.requires.state c.args.id (interface_content c.index.result.now) (interface_content c.in_ok-renamed.renamed) c.requires.source c.index.ensures.entry c.requires.parts c.in_ok-renamed.ensures
    c.add_interface.new.self c.put_interface.new.self (interface_key c.in_ok-copy.copy) c.in_ok-copy.ensures.added (ap interface_key c.in_ok-copy.ensures.id) (c.in_ok-put_interface.ensures c.requires.new)
