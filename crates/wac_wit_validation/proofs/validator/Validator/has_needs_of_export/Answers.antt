use Rattle.wac_wit_validation.proofs.WorldFacts.{IfOk-map}
use Rattle.wac_wit_validation.proofs.validator.Validator.has_needs_of_export.Goals as goal

pub returns-in-Path : goal.returns-in-Path
returns-in-Path c = IfOk-map c.has_needs_of_path.result _ _ c.has_needs_of_path.ensures (λ b told is of w at marks there. rw c.in-Path.is (told is of w at marks))

pub returns-in-Inline : goal.returns-in-Inline
returns-in-Inline c = IfOk-map c.are_there.result _ _ c.are_there.ensures (λ b told is of w at marks there. rw (c.in-Inline.is, ← c.deref.ensures.value) (told is of w w.scope at marks))
