use Rattle.std.proofs.Common.{subst}
use Rattle.wac_component.specs.Content.{named}
use Rattle.wac_wit_validation_types.specs.Exports.{HasItem}
use Rattle.wac_wit_validation_types.specs.Placed.{PlacedInterface, placed_identifier}
use Rattle.wac_wit_scopes.specs.WitSources.{ScopeSyntax, WitSources}
use Rattle.wac_wit_validation.specs.WorldChecking.{IsIndexedScope, LeadsToExtern}
use Rattle.wac_wit_validation.specs.declared.externs.LedExtern.{LedExtern}
use Rattle.wac_wit_validation.specs.declared.marks.ExternMark.TheVariants.{Found}
use Rattle.wac_wit_validation_types.proofs.MarkFacts.{has_item_at}
use Rattle.wac_wit_validation_types.proofs.NameFacts.{some_told}
use Rattle.wac_wit_validation.proofs.WorldFacts.{AreMarksOf-marked, IsMarkOf-found, said_interface}
use Rattle.wac_wit_validation.proofs.validator.Validator.mark_path.Goals as goal

-- where the path leads
led_at : (c : goal.After-mark) (of : WitSources) (w : ScopeSyntax) → IsIndexedScope c.args.self.now c.args.scope of w → LeadsToExtern of c.args.self.now w c.args.path.now (named (λ k. k) c.args.externs.now.entries) c.in-Some.led
led_at c = some_told c.in_ok-led.field-0 c.in-Some.led (λ (l : LedExtern). (of : WitSources) (w : ScopeSyntax) → IsIndexedScope c.args.self.now c.args.scope of w → LeadsToExtern of c.args.self.now w c.args.path.now (named (λ k. k) c.args.externs.now.entries) l) c.in-Some.is c.in_ok-led.ensures

pub returns-in-Some-clause-marks : goal.returns-in-Some-clause-marks
returns-in-Some-clause-marks c = λ is k of w at says.
    let es = named (λ k. k) c.args.externs.now.entries in
    let led = led_at c of w.scope at in
    AreMarksOf-marked of c.args.self.now w k es c.args.marks.now c.mark.new.self c.in-Some.led.index (Found c.in-Some.led.found) c.mark.ensures.even c.mark.ensures.marked
    (IsMarkOf-found of c.args.self.now w k es c.in-Some.led.index c.in-Some.led.found led.interface led.is (said_interface of w k c.args.path.now led.interface says led.leads))

pub returns-in-Some-clause-covers : goal.returns-in-Some-clause-covers
returns-in-Some-clause-covers c = λ is of w at i leads.
    let es = named (λ k. k) c.args.externs.now.entries in
    let led = led_at c of w at in
    subst (λ (j : PlacedInterface). HasItem es (placed_identifier j)) (at.knows.interfaces.unambiguous.interfaces w c.args.path.now led.interface i led.scope led.leads leads) (has_item_at es c.in-Some.led.index (placed_identifier led.interface) _ led.is.at)
