use Rattle.wac_checker.proofs.WalkLemmas.{path_refuses}
use Rattle.std.proofs.Common.{refl, reverse}
use Rattle.wac_checker.proofs.BelievedLemmas.{none_in_order}
use Rattle.wac_checker.proofs.compared.Compared.answer.Goals as goal

pub returns-in_err-note-in-Ok-false-clause-truly : goal.returns-in_err-note-in-Ok-false-clause-truly
returns-in_err-note-in-Ok-false-clause-truly c = let told = rw c.in-Ok-false.field-0-test at c.in-Ok-false.ensures.answer in c.note.ensures c.compare.new.walk.asked (rw c.as_slice.ensures.value told.0) (rw c.as_slice.ensures.value told.1)

pub returns-in_ok-note-in-Ok-false-clause-truly : goal.returns-in_ok-note-in-Ok-false-clause-truly
returns-in_ok-note-in-Ok-false-clause-truly c = let told = rw c.in-Ok-false.field-0-test at c.in-Ok-false.ensures.answer in c.note.ensures c.compare.new.walk.asked (rw c.as_slice.ensures.value told.0) (rw c.as_slice.ensures.value told.1)

pub returns-in_ok-note-in-Ok-false-clause-answer : goal.returns-in_ok-note-in-Ok-false-clause-answer
returns-in_ok-note-in-Ok-false-clause-answer c = (λ no_answer. absurd (cc (no_answer)), λ fits. absurd (let told = rw c.in-Ok-false.field-0-test at c.in-Ok-false.ensures.answer in path_refuses c.args.sides.now.left.now c.args.sides.now.right.now c.args.walk.now.asked (reverse c.compare.new.walk.open.items) (rw c.compare.ensures.asked at told.1) fits))

pub returns-in-Err-clause-truly : goal.returns-in-Err-clause-truly
returns-in-Err-clause-truly c = c.forget.ensures c.args.sides.now.left.now c.args.sides.now.right.now

pub returns-in-Ok-true-clause-answer : goal.returns-in-Ok-true-clause-answer
returns-in-Ok-true-clause-answer c =
    let told = rw c.in-Ok-true.field-0-test at c.in-Ok-true.ensures.answer in
    let fits = told (none_in_order c.args.sides.now.left.now c.args.sides.now.right.now) in
    (λ yes. rw c.compare.ensures.asked at fits.1, λ fits. refl)

pub returns-in-Ok-true-clause-truly : goal.returns-in-Ok-true-clause-truly
returns-in-Ok-true-clause-truly c =
    let told = rw c.in-Ok-true.field-0-test at c.in-Ok-true.ensures.answer in
    (told (none_in_order c.args.sides.now.left.now c.args.sides.now.right.now)).0
