use Rattle.std.proofs.Common.{ap}
use Rattle.wac_component.specs.Content.{func_content}
use Rattle.wac_component.specs.Key.{func_key}
use Rattle.wac_aggregator_copies.proofs.Made.{stands_func, made_func}
use Rattle.wac_aggregator_copies.proofs.copies.copy_func.Goals as goal

pub add_func_type-requires : goal.add_func_type-requires
add_func_type-requires c = stands_func c.args.types.now c.args.own.now c.args.copies.now c.sound.ensures c.requires.state c.args.id (func_content c.index.result.now) (func_content c.in_ok-renamed.renamed) c.requires.source c.index.ensures.entry c.requires.parts c.in_ok-renamed.ensures

pub returns : goal.returns
returns c = made_func c.args.types.now c.args.own.now c.args.copies.now c.sound.ensures c.requires.state c.args.id (func_content c.index.result.now) (func_content c.in_ok-renamed.renamed) c.requires.source c.index.ensures.entry c.requires.parts c.in_ok-renamed.ensures
    c.add_func_type.new.self c.put_func.new.self (func_key c.in_ok-copy.copy) c.in_ok-copy.ensures.added (ap func_key c.in_ok-copy.ensures.id) (c.in_ok-put_func.ensures c.requires.new)
