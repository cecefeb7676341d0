use Rattle.wac_aggregator_errors.proofs.Apart.{apart_or_met}
use Rattle.wac_component.specs.Tree.{item_tree}
use Rattle.wac_aggregator_errors.proofs.checks.are_apart.Goals as goal

pub returns-in-Ok-clause-apart : goal.returns-in-Ok-clause-apart
returns-in-Ok-clause-apart c =
    apart_or_met (item_tree c.meet.new.types) c.in-Ok.met c.is_none.result c.is_none.ensures (item_tree c.args.own.now c.args.a) (item_tree c.args.own.now c.args.b) c.in-Ok.ensures.meet
