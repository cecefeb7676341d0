use Rattle.wac_merge.proofs.StepLemmas.{steps_popped}
use Rattle.wac_merge.proofs.steps.turn.Goals as goal

pub returns-in_err-take-in-Some-clause-goes_on : goal.returns-in_err-take-in-Some-clause-goes_on
returns-in_err-take-in-Some-clause-goes_on c = λ d sound stand way steps.
    let parts = steps_popped d c.args.steps.now.items c.pop.new.self.items c.pop.result c.in-Some.step c.pop.ensures.items c.in-Some.is steps in
    c.take.ensures.goes_on d sound parts.1 way parts.0

pub returns-in_ok-take-in-Some-clause-goes_on : goal.returns-in_ok-take-in-Some-clause-goes_on
returns-in_ok-take-in-Some-clause-goes_on c = λ d sound stand way steps.
    let parts = steps_popped d c.args.steps.now.items c.pop.new.self.items c.pop.result c.in-Some.step c.pop.ensures.items c.in-Some.is steps in
    c.take.ensures.goes_on d sound parts.1 way parts.0
