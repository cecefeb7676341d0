use Rattle.wac_wit_changes.proofs.TreeRuns.{runs_as_trees}
use Rattle.wac_wit_changes.proofs.checking.check_imports_used.Goals as goal

pub returns : goal.returns
returns c =
    runs_as_trees c.args.types.now c.args.component c.args.target _ _ c.in_ok-standing_world.ensures.is c.in_ok-to.ensures.is c.in_ok-imports_all_used.ensures.distinct
    (c.in_ok-imports_all_used.ensures.used c.if-not-branch.false)
