use Rattle.wac_merge.proofs.steps.push_lacking.Goals as goal

pub returns-in-Lacks : goal.returns-in-Lacks
returns-in-Lacks c = λ d lacks stand. c.push_step.ensures d (rw c.of.ensures (rw c.in-Lacks.is at lacks)) stand
