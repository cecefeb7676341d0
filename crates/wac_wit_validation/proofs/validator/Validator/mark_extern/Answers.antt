use Rattle.wac_wit_validation.proofs.WorldFacts.{IfOk-map}
use Rattle.wac_wit_validation.proofs.validator.Validator.mark_extern.Goals as goal

pub returns-in-Func-clause-marks : goal.returns-in-Func-clause-marks
returns-in-Func-clause-marks c = λ is. rw c.in-Func.is (c.mark_func.ensures.marks is c.args.self.now c.args.scope)

pub returns-in-Func-clause-covers : goal.returns-in-Func-clause-covers
returns-in-Func-clause-covers c = λ is rss renames. rw c.in-Func.is (c.mark_func.ensures.covers is rss renames)

pub returns-in-Inline-clause-marks : goal.returns-in-Inline-clause-marks
returns-in-Inline-clause-marks c = rw c.in-Inline.is c.mark_inline.ensures.marks

pub returns-in-Inline-clause-covers : goal.returns-in-Inline-clause-covers
returns-in-Inline-clause-covers c = IfOk-map c.mark_inline.result _ _ c.mark_inline.ensures.covers (λ b told is rss renames. rw c.in-Inline.is (told is rss renames))
