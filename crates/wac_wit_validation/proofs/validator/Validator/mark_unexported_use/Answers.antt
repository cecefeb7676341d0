use Rattle.std.proofs.Common.{◌∙◌, refl, sym, subst}
use Rattle.wac_component.specs.declared.worlds.ExternKind.TheVariants.{Import}
use Rattle.wac_component.specs.Content.{named}
use Rattle.wac_wit_scopes.specs.WitSources.{ScopeSyntax, WitSources}
use Rattle.wac_wit_validation.specs.WorldChecking.{IsIndexedScope, LeadsToExtern}
use Rattle.wac_wit_validation.specs.declared.externs.LedExtern.{LedExtern}
use Rattle.wac_wit_validation.specs.declared.marks.ExternMark.TheVariants.{Found}
use Rattle.wac_wit_validation_types.proofs.NameFacts.{named_at, some_told}
use Rattle.wac_wit_validation_types.specs.Placed.{placed_identifier}
use Rattle.wac_wit_validation_types.specs.Worlds.{used_by_export}
use Rattle.wac_wit_validation.proofs.WorldFacts.{AreMarksOf-marked, IsMarkOf-found, not_looked_up, own_interface, same_name, use_of}
use Rattle.wac_wit_validation_types.specs.Exports.{HasItem}
use Rattle.wac_wit_validation.proofs.validator.Validator.mark_unexported_use.Goals as goal

pub returns-then-is_none : goal.returns-then-is_none
returns-then-is_none c = λ is of w x at there used.
    let v = c.args.self.now in
    let es = named (λ k. k) c.args.entry.now.imports.entries in
    let item = c.args.item.now in
    let led = some_told c.in_ok-led.field-0 c.in-Some.led (λ (l : LedExtern). (of : WitSources) (y : ScopeSyntax) → IsIndexedScope c.args.self.now c.args.scope of y → LeadsToExtern of c.args.self.now y item.path es l) c.in-Some.is c.in_ok-led.ensures of x at in
    let types = (c.if-not-uses_types.ensures of at.knows).0 refl in
    let name = named_at c.args.entry.now.imports.entries c.in-Some.led.index c.in-Some-get_index.name.now c.in-Some-get_index.field-0-1.now (sym c.in-Some-get_index.ensures.entry) in
    AreMarksOf-marked of v w Import es c.args.marks.now c.mark.new.self c.in-Some.led.index (Found c.in-Some.led.found) c.mark.ensures.even c.mark.ensures.marked
    (IsMarkOf-found of v w Import es c.in-Some.led.index c.in-Some.led.found led.interface led.is (own_interface of w Import led.interface (used_by_export (used led.interface (use_of of x item led.interface types led.leads)) (λ h. not_looked_up c.get.result c.as_str.result.now (placed_identifier led.interface) c.args.entry.now.exports.entries (c.as_str.ensures.value ∙ same_name es c.in-Some.led.index _ _ _ _ name led.is.at) c.get.ensures.value (c.if-is_none.ensures) (subst (HasItem (named (λ k. k) c.args.entry.now.exports.entries)) h.identifier (there h.interface (record { renames = h.renames; inside = h.inside; brings = h.brings; says = h.exports })))))))
