use Rattle.wac_wit_validation.specs.declared.marks.ExternMark.TheVariants.{Found}
use Rattle.wac_wit_validation.proofs.validator.Validator.mark_used_by_imports.Goals.{in_default-via-in-None-1, in_default-via-in-Some+in_ok-mark_used_by+else-not-branch}
use Rattle.wac_wit_validation.proofs.validator.Validator.mark_used_by_imports.Goals as goal

pub loop-index-preserved : goal.loop-index-preserved
loop-index-preserved c = λ of w knows old.
    let marks = c.loop-index.invariant of w knows old in
    elim c.in_default.branch [
      | in_default-via-in-None-1 s ↦ rw s.marks-is marks
      | in_default-via-in-Some+in_ok-mark_used_by+else-not-branch s ↦
          let mark = marks.each _ (Found s.in-Some.found) s.in-Some.ensures.some in
          rw s.marks-is (s.in_ok-mark_used_by.ensures s.if-not-branch.false of w mark.0 knows mark.1.found.at mark.2 marks)
    ]
