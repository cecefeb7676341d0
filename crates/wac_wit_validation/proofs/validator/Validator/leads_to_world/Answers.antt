use Rattle.std.proofs.Common.{◌∙◌, sym, ap, subst}
use Rattle.std.proofs.lemmas.Option.{same_Some}
use Rattle.wac_wit_scopes.specs.Scopes.{scope_syntax}
use Rattle.wac_wit_validation_types.specs.Placed.{HasWorld, LeadsToWorld, PlacedWorld}
use Rattle.wac_wit_scopes.specs.WitSources.{PathLeadsTo, ScopeSyntax, ident_text}
use Rattle.wac_wit_validation.specs.WorldChecking.{IsWorldAt}
use Rattle.wac_wit_scopes.proofs.PathFacts.{read_from}
use Rattle.wac_wit_validation.proofs.WorldFacts.{IsWorldAt-one, world_placed}
use Rattle.wac_wit_validation.proofs.validator.Validator.leads_to_world.Goals as goal

pub returns-in-Some-world_at : goal.returns-in-Some-world_at
returns-in-Some-world_at c = λ is of w at v is_at.
    let self = c.args.self.now in
    let to = c.in-Some-world_at.to.now in
    let decl = c.in-Some-world_at.decl.now in
    let knows = at.knows.interfaces in
    let from_at = read_from self.scopes.items c.deref.result.now c.args.scope c.in-Some.from.now c.deref.ensures.value c.in-Some.ensures.lookup.0 c.in-Some.ensures.lookup.1 in
    let leads = c.leads.ensures.leads is of (knows.scopes c.args.at.now.scope to c.in-Some-world_at.ensures.scope) in
    let here : IsWorldAt of self c.args.at.now v = is_at in
    let one = IsWorldAt-one of self c.args.at.now v to decl is_at c.in-Some-world_at.ensures.scope c.in-Some-world_at.ensures.item in
    subst (λ (x : PlacedWorld). LeadsToWorld of w c.args.path.now x) (sym one) (record {
      name = ident_text decl.name;
      leads = subst (λ (x : ScopeSyntax). PathLeadsTo of x c.args.path.now (scope_syntax to) (ident_text decl.name)) (ap scope_syntax (same_Some _ _ (sym from_at ∙ at.at)) ∙ sym at.is) leads;
      has = subst (λ (x : PlacedWorld). HasWorld of x.scope (ident_text x.decl.name) x.decl) one (world_placed of self c.args.at.now v knows is_at);
    })
