use Rattle.wac_wit_validation.proofs.WorldFacts.{IfOk-map, scope_placed, uses_placed}
use Rattle.wac_wit_validation.proofs.validator.Validator.are_uses_of_marked.Goals as goal

pub returns-in-Some : goal.returns-in-Some
returns-in-Some c = IfOk-map c.are_uses_marked.result _ _ c.are_uses_marked.ensures (λ b told is of i j knows placed uses.
    let place = c.args.found.now.place in
    told is of i.scope (scope_placed of c.args.self.now place i knows placed) j ((uses_placed of c.args.self.now place i j c.in-Some.field-0-0.now c.in-Some.decl.now c.deref.result.now placed c.in-Some.ensures.scope c.in-Some.ensures.item c.deref.ensures.value).0 uses))
