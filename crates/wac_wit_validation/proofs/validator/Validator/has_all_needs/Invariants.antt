use Rattle.wac_component.specs.declared.worlds.ExternKind.TheVariants.{Export}
use Rattle.wac_wit_scopes.specs.WitSources.{WitSources}
use Rattle.wac_wit_validation_types.specs.Placed.{PlacedWorld}
use Rattle.wac_wit_validation_types.proofs.MarkFacts.{AllBelow}
use Rattle.wac_wit_validation.specs.WorldChecking.{AreMarksOf, IsTextAt, ItemNeeds, text_content}
use Rattle.wac_wit_validation.proofs.validator.Validator.has_all_needs.Given as goal

abbrev pub invariant-loop-item : goal.invariant-loop-item
invariant-loop-item l = (of : WitSources) (w : PlacedWorld) → IsTextAt l.self l.text of w → AreMarksOf of l.self w Export (text_content l.text).exports l.marks.exports → AllBelow (ItemNeeds of l.self w l.marks) l.item-items l.item-index
