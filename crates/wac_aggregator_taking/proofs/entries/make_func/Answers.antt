use Rattle.std.proofs.Common.{refl, ap, is_some}
use Rattle.wac_component.specs.Content.{func_content}
use Rattle.wac_component.specs.Key.{func_key}
use Rattle.wac_aggregator_taking.proofs.Made.{stands_func, made_func}
use Rattle.wac_aggregator_taking.proofs.entries.make_func.Goals as goal

pub add_func_type-requires : goal.add_func_type-requires
add_func_type-requires c = stands_func c.args.types.now c.args.state.now c.sound.ensures c.requires.state c.args.id (func_content c.index.result.now) (func_content c.in_ok-renamed.renamed) c.requires.source c.index.ensures.entry c.requires.parts c.in_ok-renamed.ensures

pub returns-clause-taken : goal.returns-clause-taken
returns-clause-taken c = made_func c.args.types.now c.args.state.now c.sound.ensures c.requires.state c.args.id (func_content c.index.result.now) (func_content c.in_ok-renamed.renamed) c.requires.source c.index.ensures.entry c.requires.parts c.in_ok-renamed.ensures
    (record c.args.state.now { types = c.add_func_type.new.self; taken = c.put_func.new.self }) (func_key c.in_ok-own.own) refl c.in_ok-own.ensures.added (ap func_key c.in_ok-own.ensures.id) (c.in_ok-put_func.ensures c.requires.new)

pub returns-clause-noted : goal.returns-clause-noted
returns-clause-noted c = ap (λ o. is_some o) (c.in_ok-put_func.ensures c.requires.new).is
