use Rattle.wac_merge.proofs.MemoLemmas.{IsTrueMemo-none}
use Rattle.wac_merge.proofs.steps.bound_of.Goals as goal

pub take_steps-requires-clause-memo : goal.take_steps-requires-clause-memo
take_steps-requires-clause-memo c =
    IsTrueMemo-none c.args.types.now c.new-memo.result c.new-memo.ensures.made c.new-memo.ensures.refused (c.new-memo.ensures.compared c.args.types.now c.args.types.now)
