use Rattle.std.proofs.Common.{◌∙◌, inl, inr, sym, ap}
use Rattle.wac_component.specs.Content.{named}
use Rattle.wac_wit_scopes.specs.WitSources.{ScopeSyntax, WitSources}
use Rattle.wac_wit_validation.specs.WorldChecking.{IsIndexedScope, LeadsToExtern}
use Rattle.wac_wit_validation.specs.declared.externs.LedExtern.{LedExtern}
use Rattle.wac_wit_validation.specs.declared.marks.ExternMark.TheVariants.{Found}
use Rattle.wac_wit_validation_types.proofs.NameFacts.{some_told}
use Rattle.wac_wit_validation_types.specs.Placed.{placed_identifier}
use Rattle.wac_wit_validation.proofs.WorldFacts.{no_truth, one_use, same_name, some_there}
use Rattle.wac_wit_validation.proofs.validator.Validator.is_used_there.Goals as goal

pub returns-then-not-uses_types : goal.returns-then-not-uses_types
returns-then-not-uses_types c = λ is of w x at marks i uses. absurd (no_truth ((c.if-not-uses_types.ensures of at.knows).1 (one_use of x c.args.item.now i uses).0))

pub returns-then-branch : goal.returns-then-branch
returns-then-branch c = λ is of w x at marks i uses. inl (c.in_ok-is_path_marked.ensures c.if-branch.true of x at i (one_use of x c.args.item.now i uses).1)

pub returns-in-Some : goal.returns-in-Some
returns-in-Some c = λ is of w x at marks i uses.
    let es = named (λ k. k) c.args.entry.now.exports.entries in
    let path = c.args.item.now.path in
    let led = some_told c.in_ok-led.field-0 c.in-Some.led (λ (l : LedExtern). (of : WitSources) (y : ScopeSyntax) → IsIndexedScope c.args.self.now c.args.scope of y → LeadsToExtern of c.args.self.now y path es l) c.in-Some.is c.in_ok-led.ensures of x at in
    let one = at.knows.interfaces.unambiguous.interfaces x path led.interface i led.scope led.leads (one_use of x c.args.item.now i uses).1 in
    let mark = some_there c.found_at.result _ c.found_at.ensures.some (sym is ∙ c.is_some.ensures) in
    let here = marks.each c.in-Some.led.index (Found mark.0) mark.1 in
    inr (record { renames = here.2.renames; inside = here.2.inside; brings = here.2.brings; interface = here.0; exports = here.2.says; identifier = same_name es c.in-Some.led.index _ _ _ _ here.1.at led.is.at ∙ ap placed_identifier one })
