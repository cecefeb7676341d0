use Rattle.std.proofs.Common.{refl}
use Rattle.wac_component.specs.declared.worlds.ExternKind.TheVariants.{Import}
use Rattle.wac_component.specs.Content.{named}
use Rattle.wac_wit_scopes.specs.WitSources.{ScopeSyntax, WitSources}
use Rattle.wac_wit_validation.specs.WorldChecking.{IsIndexedScope, LeadsToExtern}
use Rattle.wac_wit_validation.specs.declared.externs.LedExtern.{LedExtern}
use Rattle.wac_wit_validation.specs.declared.marks.ExternMark.TheVariants.{Found}
use Rattle.wac_wit_validation_types.proofs.NameFacts.{some_told}
use Rattle.wac_wit_validation.proofs.WorldFacts.{AreMarksOf-marked, IsMarkOf-found, use_of}
use Rattle.wac_wit_validation.proofs.validator.Validator.mark_use.Goals as goal

pub returns-in-Some : goal.returns-in-Some
returns-in-Some c = λ is of w x at imports.
    let es = named (λ k. k) c.args.imports.now.entries in
    let item = c.args.item.now in
    let led = some_told c.in_ok-led.field-0 c.in-Some.led (λ (l : LedExtern). (of : WitSources) (y : ScopeSyntax) → IsIndexedScope c.args.self.now c.args.scope of y → LeadsToExtern of c.args.self.now y item.path es l) c.in-Some.is c.in_ok-led.ensures of x at in
    let types = (c.if-not-uses_types.ensures of at.knows).0 refl in
    AreMarksOf-marked of c.args.self.now w Import es c.args.marks.now c.mark.new.self c.in-Some.led.index (Found c.in-Some.led.found) c.mark.ensures.even c.mark.ensures.marked
    (IsMarkOf-found of c.args.self.now w Import es c.in-Some.led.index c.in-Some.led.found led.interface led.is (imports led.interface (use_of of x item led.interface types led.leads)))
