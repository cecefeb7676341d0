use Rattle.std.proofs.Common.{◌++◌}
use Rattle.wac_component.specs.Key.{item_keys}
use Rattle.wac_merge.proofs.StepLemmas.{underway_compared, lacking_stands}
use Rattle.wac_merge.proofs.steps.ask.Goals as goal

pub returns-in_err-push_lacking-in-Err-clause-goes_on : goal.returns-in_err-push_lacking-in-Err-clause-goes_on
returns-in_err-push_lacking-in-Err-clause-goes_on c = λ d sound stand way steps. (
  underway_compared d c.args.types.now c.args.memo.now c.bound_items.new.memo c.in-Err.ensures.made c.in-Err.ensures.memo way,
  c.push_lacking.ensures d (lacking_stands d c.args.types.now (item_keys c.args.a.now ++ item_keys c.args.b.now) c.in-Err.untold sound way.ran.only.extends stand c.in-Err.ensures.lacks) steps,
)

pub returns-in_ok-push_lacking-in-Err-clause-goes_on : goal.returns-in_ok-push_lacking-in-Err-clause-goes_on
returns-in_ok-push_lacking-in-Err-clause-goes_on c = λ d sound stand way steps. (
  underway_compared d c.args.types.now c.args.memo.now c.bound_items.new.memo c.in-Err.ensures.made c.in-Err.ensures.memo way,
  c.push_lacking.ensures d (lacking_stands d c.args.types.now (item_keys c.args.a.now ++ item_keys c.args.b.now) c.in-Err.untold sound way.ran.only.extends stand c.in-Err.ensures.lacks) steps,
)
