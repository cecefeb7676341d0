use Rattle.std.proofs.Common.{refl, sym, subst}
use Rattle.wac_wit_scopes.specs.Scopes.{scope_syntax}
use Rattle.wac_wit_scopes.specs.WitSources.{PathLeadsTo, ScopeSyntax, ident_text}
use Rattle.wac_wit_scopes.proofs.PathFacts.{contains_at, read_at, read_from}
use Rattle.wac_wit_validation.proofs.validator.Validator.found_from.Goals as goal

pub returns : goal.returns
returns c = λ s setting.
    let v = c.args.self.now in
    let path = c.args.path.now in
    let from = c.in_ok-from.from.now in
    let found = c.in_ok-found.found.now in
    let index = c.in_ok-position_of.field-0.now in
    let to = c.in_ok-to.to.now in
    let decl = c.in-Interface.decl in
    let from_at = read_from v.scopes.items c.deref.result.now c.args.scope from c.deref.ensures.value c.in_ok-from.ensures.lookup.0 c.in_ok-from.ensures.lookup.1 in
    let found_at = read_from v.found.items c.deref-2.result.now index found c.deref-2.ensures.value c.in_ok-found.ensures.lookup.0 c.in_ok-found.ensures.lookup.1 in
    let to_at = read_from v.scopes.items c.deref-3.result.now found.place.scope to c.deref-3.ensures.value c.in_ok-to.ensures.lookup.0 c.in_ok-to.ensures.lookup.1 in
    record {
      scope = to;
      decl = decl;
      among = contains_at v.found.items index found found_at;
      at_scope = to_at;
      at_item = read_at to.items.now found.place.item _ c.in_ok-decl.field-0.now c.in_ok-decl.ensures.lookup.0 c.in_ok-decl.ensures.lookup.1 c.in-Interface.is;
      leads = subst (λ (w : ScopeSyntax). PathLeadsTo s.sources w path (scope_syntax to) (ident_text decl.name)) (sym (setting.at from from_at)) (c.if-not-leads.ensures.leads refl s.sources (setting.knows.scopes found.place.scope to to_at));
    }
