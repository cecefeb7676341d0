use Rattle.std.proofs.Common.{subst}
use Rattle.wac_component.specs.Content.{named}
use Rattle.wac_wit_scopes.specs.WitSources.{ScopeSyntax, WitSources}
use Rattle.wac_wit_validation.specs.WorldChecking.{IsIndexedScope, IsPlacedAt, LeadsToExtern}
use Rattle.wac_wit_validation.specs.declared.externs.LedExtern.{LedExtern}
use Rattle.wac_wit_validation_types.proofs.NameFacts.{some_told}
use Rattle.wac_wit_validation.proofs.WorldFacts.{IfOk-map, scope_placed, uses_placed}
use Rattle.wac_wit_validation.proofs.validator.Validator.has_needs_of_path.Goals as goal

pub returns-in-Some-interface_at : goal.returns-in-Some-interface_at
returns-in-Some-interface_at c = IfOk-map c.are_there.result _ _ c.are_there.ensures (λ b told is of w at marks x i leads uses.
    let v = c.args.self.now in
    let place = c.in-Some.led.found.place in
    let led = some_told c.in_ok-led.field-0 c.in-Some.led (λ (l : LedExtern). (of : WitSources) (y : ScopeSyntax) → IsIndexedScope c.args.self.now c.args.scope of y → LeadsToExtern of c.args.self.now y c.args.path.now (named (λ k. k) c.args.entry.now.exports.entries) l) c.in-Some.is c.in_ok-led.ensures of w.scope at in
    let one = at.knows.interfaces.unambiguous.interfaces w.scope c.args.path.now led.interface x led.scope led.leads leads in
    let placed = subst (IsPlacedAt v place) one led.is.found.at in
    told is of w x.scope (scope_placed of v place x at.knows placed) marks i ((uses_placed of v place x i c.in-Some-interface_at.field-0-0.now c.in-Some-interface_at.decl.now c.deref.result.now placed c.in-Some-interface_at.ensures.scope c.in-Some-interface_at.ensures.item c.deref.ensures.value).0 uses))
