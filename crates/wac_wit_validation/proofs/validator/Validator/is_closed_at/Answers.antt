use Rattle.std.proofs.Common.{subst}
use Rattle.wac_wit_validation.specs.WorldChecking.{MarksUsesOf}
use Rattle.wac_wit_validation_names.specs.declared.places.FoundInterface.{FoundInterface}
use Rattle.wac_wit_validation.proofs.WorldFacts.{IfOk-map, none_is, same_mark}
use Rattle.wac_wit_validation.proofs.validator.Validator.is_closed_at.Goals as goal

pub returns-in-Some : goal.returns-in-Some
returns-in-Some c = IfOk-map c.are_uses_of_marked.result _ _ c.are_uses_of_marked.ensures (λ b told is f at. subst (λ (g : FoundInterface). MarksUsesOf c.args.self.now g c.args.marks.now) (same_mark c.args.marks.now.marks.items c.args.index _ f c.in-Some.ensures.some at) (told is))

pub returns-in-None : goal.returns-in-None
returns-in-None c = λ is f at. absurd (c.found_at.ensures.none (none_is c.found_at.result c.in-None.is) f at)
