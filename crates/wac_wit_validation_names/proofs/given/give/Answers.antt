use Rattle.std.proofs.Common.{◌∙◌, refl}
use Rattle.std.proofs.lemmas.Result.{IfOk-weaker}
use Rattle.wac_wit_validation_names.proofs.given.give.Goals as goal

pub returns-clause-gives : goal.returns-clause-gives
returns-clause-gives c = IfOk-weaker c.note.result _ _ (λ b h is. record { at = h is; plain = λ i same. c.if-not-is_plain.ensures refl i (c.deref.ensures ∙ same) }) c.note.ensures.notes
