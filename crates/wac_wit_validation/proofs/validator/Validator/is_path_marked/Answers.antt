use Rattle.std.proofs.Common.{sym, subst}
use Rattle.wac_component.specs.Content.{named}
use Rattle.wac_wit_scopes.specs.WitSources.{ScopeSyntax, WitSources}
use Rattle.wac_wit_validation.specs.WorldChecking.{IsIndexedScope, IsPlacedAt, LeadsToExtern}
use Rattle.wac_wit_validation.specs.declared.externs.LedExtern.{LedExtern}
use Rattle.wac_wit_validation_types.proofs.NameFacts.{some_told}
use Rattle.wac_wit_validation_names.specs.declared.places.ItemPlace.{ItemPlace}
use Rattle.wac_wit_validation.proofs.validator.Validator.is_path_marked.Goals as goal

pub returns-in-Some-found_at : goal.returns-in-Some-found_at
returns-in-Some-found_at c = λ is of w at i leads.
    let v = c.args.self.now in
    let led = some_told c.in_ok-led.field-0 c.in-Some.led (λ (l : LedExtern). (of : WitSources) (y : ScopeSyntax) → IsIndexedScope c.args.self.now c.args.scope of y → LeadsToExtern of c.args.self.now y c.args.path.now (named (λ k. k) c.args.imports.now.entries) l) c.in-Some.is c.in_ok-led.ensures of w at in
    let one = at.knows.interfaces.unambiguous.interfaces w c.args.path.now led.interface i led.scope led.leads leads in
    let found = c.in-Some-found_at.found in
    record {
      place = c.in-Some.led.index;
      mark = found;
      at = c.in-Some-found_at.ensures.some;
      is = subst (λ (p : ItemPlace). IsPlacedAt v p i) (sym (c.is_same_place.ensures is)) (subst (IsPlacedAt v c.in-Some.led.found.place) one led.is.found.at);
    }
