use Rattle.wac_merge.proofs.MemoLemmas.{IsTrueMemo-none}
use Rattle.wac_merge.proofs.StepLemmas.{underway_first}
use Rattle.wac_merge.proofs.meets.Meets.new.Goals as goal

pub returns : goal.returns
returns c = λ d.
    underway_first d c.new.result (IsTrueMemo-none d c.new.result c.new.ensures.made c.new.ensures.refused (c.new.ensures.compared d d)) c.new.ensures.made
