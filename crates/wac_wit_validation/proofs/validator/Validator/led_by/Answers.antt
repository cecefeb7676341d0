use Rattle.std.proofs.Common.{◌∙◌, refl, sym, ap, subst}
use Rattle.std.proofs.lemmas.Option.{same_Some}
use Rattle.wac_model.specs.Text.{Text}
use Rattle.wac_component.specs.Content.{named}
use Rattle.wac_wit_scopes.specs.Scopes.{scope_syntax}
use Rattle.wac_wit_validation_types.specs.Placed.{PlacedInterface}
use Rattle.wac_wit_scopes.specs.WitSources.{PathLeadsTo, ScopeSyntax, ident_text, interface_identifier, package_id}
use Rattle.wac_wit_validation.specs.WorldChecking.{IsFoundAs}
use Rattle.wac_wit_validation_types.proofs.NameFacts.{named_at}
use Rattle.wac_wit_scopes.proofs.PathFacts.{read_from}
use Rattle.wac_wit_validation.proofs.WorldFacts.{entry_is, has_found, scope_of}
use Rattle.wac_wit_validation.proofs.validator.Validator.led_by.Goals as goal

pub returns : goal.returns
returns c = λ of w at.
    let v = c.args.self.now in
    let f = c.in_ok-found.found.now in
    let to = c.in_ok-to.to.now in
    let decl = c.in_ok-to.decl.now in
    let knows = at.knows.interfaces in
    let i : PlacedInterface = record { scope = scope_syntax to; decl = decl } in
    let found : IsFoundAs of v f i = record { valid = knows.found f c.in_ok-found.ensures.among; at = record { scope = to; at_scope = c.in_ok-to.ensures.scope; at_item = c.in_ok-to.ensures.item; is = refl } } in
    let from_at = read_from v.scopes.items c.deref-2.result.now c.args.scope c.in_ok-from.from.now c.deref-2.ensures.value c.in_ok-from.ensures.lookup.0 c.in_ok-from.ensures.lookup.1 in
    let leads = c.if-not-leads.ensures.leads refl of (knows.scopes f.place.scope to c.in_ok-to.ensures.scope) in
    let key = c.if-not-is_identifier_text.ensures refl in
    let entry = named_at c.args.externs.now.entries c.in_ok-index.index c.in_ok-index.name.now c.in_ok-index.item.now c.in_ok-index.ensures.entry in
    record {
      interface = i;
      is = record { found = found; at = entry_is (named (λ k. k) c.args.externs.now.entries) c.in_ok-index.index _ _ c.in_ok-index.item.now c.in-Instance.id f.id entry (sym c.deref-4.ensures ∙ key ∙ ap (λ (n : Text). interface_identifier (package_id to.package.now) n) c.deref-3.ensures) c.in-Instance.is c.in_ok-found.ensures.id };
      leads = record { name = ident_text decl.name; leads = subst (λ (x : ScopeSyntax). PathLeadsTo of x c.args.path.now (scope_syntax to) (ident_text decl.name)) (ap scope_syntax (same_Some _ _ (sym from_at ∙ at.at)) ∙ sym at.is) leads; has = has_found of v f i found knows };
      scope = scope_of of v c.args.scope w at;
    }
