use Rattle.wac_component.specs.declared.worlds.ExternKind.TheVariants.{Export, Import}
use Rattle.wac_wit_scopes.specs.WitSources.{WitSources}
use Rattle.wac_wit_validation_types.specs.Placed.{PlacedWorld}
use Rattle.wac_wit_validation.specs.WorldChecking.{AreInterfacesThere, IsTextAt, KeepsExterns, text_content}
use Rattle.wac_wit_validation.proofs.validator.Validator.mark_all_needs.Given as goal

abbrev pub invariant-loop-item : goal.invariant-loop-item
invariant-loop-item l = (of : WitSources) (w : PlacedWorld) → IsTextAt l.self l.text of w → AreInterfacesThere of Export w (text_content l.text).exports → KeepsExterns of l.self w Import (text_content l.text).imports l.initial.marks l.marks
