use Rattle.wac_wit_validation.proofs.WorldFacts.{IfOk-map}
use Rattle.wac_wit_validation.proofs.validator.Validator.has_needs.Goals as goal

pub returns-in-Use : goal.returns-in-Use
returns-in-Use c = IfOk-map c.is_use_marked.result _ _ c.is_use_marked.ensures (λ b told is of w at marks. rw c.in-Use.is (told is of w.scope at))

pub returns-in-Import : goal.returns-in-Import
returns-in-Import c = IfOk-map c.has_needs_of_import.result _ _ c.has_needs_of_import.ensures (λ b told is of w at marks. rw c.in-Import.is (told is of w at marks))

pub returns-in-Export : goal.returns-in-Export
returns-in-Export c = IfOk-map c.has_needs_of_export.result _ _ c.has_needs_of_export.ensures (λ b told is of w at marks. rw c.in-Export.is (told is of w at marks))
