use Rattle.wac_component.specs.Tree.{item_tree}
use Rattle.wac_aggregator_errors.proofs.Apart.{unfit}
use Rattle.wac_aggregator_errors.proofs.Ways.{ends_here, ends_in_modules}
use Rattle.wac_aggregator_errors.proofs.explain.innermost.Goals as goal

pub item_error-requires-clause-unfit : goal.item_error-requires-clause-unfit
item_error-requires-clause-unfit c = unfit (item_tree c.args.own.now c.args.existing) (item_tree c.args.own.now c.args.new) c.requires.apart

pub returns-in_ok-with_export-in-Some : goal.returns-in_ok-with_export-in-Some
returns-in_ok-with_export-in-Some c =
    ends_in_modules c.args.check (item_tree c.args.own.now c.args.existing) (item_tree c.args.own.now c.args.new) c.args.frames.items c.in_ok-with_export-in-Some.field-0.items c.in_ok-name.field-0 c.in-Some.field-0 c.in-Some.is c.in_ok-name.ensures c.in_ok-with_export-in-Some.ensures

pub returns-in_ok-error-in-None : goal.returns-in_ok-error-in-None
returns-in_ok-error-in-None c =
    ends_here c.args.check c.in_ok-error-in-None.error (item_tree c.args.own.now c.args.existing) (item_tree c.args.own.now c.args.new) c.args.frames.items c.in_ok-name.field-0 c.requires.innermost c.in-None.is c.in_ok-name.ensures c.in_ok-error-in-None.ensures
