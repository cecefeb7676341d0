use Rattle.std.proofs.Common.{◌≡◌, ◌<◌, ℕ, Some}
use Rattle.std.specs.Prelude.{slice_get}
use Rattle.wac_wit_validation.specs.declared.marks.ExternMark.TheVariants.{Found}
use Rattle.wac_wit_validation_names.specs.declared.places.FoundInterface.{FoundInterface}
use Rattle.wac_wit_validation.specs.WorldChecking.{MarksUsesOf}
use Rattle.wac_wit_validation.proofs.validator.Validator.is_closed.Given as goal

abbrev pub invariant-loop-index : goal.invariant-loop-index
invariant-loop-index l = (n : ℕ) (f : FoundInterface) → n < l.index → slice_get l.marks.marks.items n ≡ Some (Found f) → MarksUsesOf l.self f l.marks
