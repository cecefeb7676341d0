use Rattle.wac_wit_validation.proofs.WorldFacts.{IfOk-map, scope_placed, used_interface, uses_placed}
use Rattle.wac_wit_validation.proofs.validator.Validator.mark_used_by.Goals as goal

pub returns-in-Some : goal.returns-in-Some
returns-in-Some c = IfOk-map c.mark_uses.result _ _ c.mark_uses.ensures (λ b told is of w i knows placed has.
    let place = c.args.found.now.place in
    told is of w i.scope (scope_placed of c.args.self.now place i knows placed) (λ j uses. used_interface of w i j has ((uses_placed of c.args.self.now place i j c.in-Some.field-0-0.now c.in-Some.decl.now c.deref.result.now placed c.in-Some.ensures.scope c.in-Some.ensures.item c.deref.ensures.value).1 uses)))
