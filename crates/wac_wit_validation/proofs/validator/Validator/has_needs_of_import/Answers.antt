use Rattle.wac_wit_validation.proofs.WorldFacts.{IfOk-map}
use Rattle.wac_wit_validation.proofs.validator.Validator.has_needs_of_import.Goals as goal

pub returns-in-Path : goal.returns-in-Path
returns-in-Path c = IfOk-map c.is_path_marked.result _ _ c.is_path_marked.ensures (λ b told is of w at marks there. rw c.in-Path.is (told is of w.scope at))

pub returns-in-Inline : goal.returns-in-Inline
returns-in-Inline c = IfOk-map c.are_uses_marked.result _ _ c.are_uses_marked.ensures (λ b told is of w at marks there. rw (c.in-Inline.is, ← c.deref.ensures.value) (told is of w.scope at))
