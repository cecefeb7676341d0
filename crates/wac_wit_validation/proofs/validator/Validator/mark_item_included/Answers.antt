use Rattle.std.proofs.Common.{subst, Contains}
use Rattle.wac_wit_syntax.specs.declared.tree.WorldItem.{WorldItem}
use Rattle.wac_wit_validation.proofs.validator.Validator.mark_item_included.Goals as goal

pub returns-in-Include-clause-marks : goal.returns-in-Include-clause-marks
returns-in-Include-clause-marks c = λ is of w at among. c.mark_include.ensures.marks is of w at (subst (λ (x : WorldItem). Contains w.decl.items.items x) c.in-Include.is among)

pub returns-in-Include-clause-covers : goal.returns-in-Include-clause-covers
returns-in-Include-clause-covers c = λ is of w at. rw c.in-Include.is (c.mark_include.ensures.covers is of w at)
