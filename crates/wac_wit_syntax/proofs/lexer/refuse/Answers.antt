-- What is refused lies in the text, and no part begins there.
use Rattle.std.proofs.Common.{inr, arith}
use Rattle.wac_wit_syntax.proofs.FaultFacts.{faults_added}
use Rattle.wac_wit_syntax.proofs.lexer.refuse.Goals as goal

pub returns-in-47-clause-faults : goal.returns-in-47-clause-faults
returns-in-47-clause-faults c = λ h. faults_added c.args.text.now _ _ (record { start = c.args.start; end = c.min-end.result }) c.add.ensures.only
    (record { ordered = omega (arith, c.min-end.ensures); within = omega (arith, c.min-end.ensures); why = inr c.requires.none }) h

pub returns-in_default-clause-faults : goal.returns-in_default-clause-faults
returns-in_default-clause-faults c = λ h. faults_added c.args.text.now _ _ (record { start = c.args.start; end = c.args.end }) c.add-in_default.ensures.only
    (record { ordered = omega arith; within = omega arith; why = inr c.requires.none }) h
