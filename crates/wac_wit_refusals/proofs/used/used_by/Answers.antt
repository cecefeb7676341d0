use Rattle.std.proofs.Common.{◌∙◌, ℕ, Contains, List, ap, subst, sym}
use Rattle.std.proofs.lemmas.Option.{IfSome_then, MatchOption-at_some}
use Rattle.wac_wit_scopes.specs.Scopes.{scope_syntax}
use Rattle.wac_wit_scopes.specs.WitSources.{IsScopeAt, ident_text}
use Rattle.wac_wit_syntax.specs.declared.tree.Ident.{Ident}
use Rattle.wac_wit_syntax.specs.declared.tree.Rename.{Rename}
use Rattle.wac_wit_syntax.specs.declared.tree.TopItem.{TopItem}
use Rattle.wac_wit_refusals_sites.specs.Judging.{body_syntax}
use Rattle.wac_wit_refusals_sites.specs.Paths.{LeadsToItem}
use Rattle.wac_wit_refusals.proofs.used.used_by.Goals as goal

pub returns-in-Some-2 : goal.returns-in-Some-2
returns-in-Some-2 c = IfSome_then c.found_in.result c.found_in.ensures (λ u found of judges file known has.
    let body = c.args.body.now in
    let item = c.args.item.now in
    let led = c.in-Some-2.led in
    let to = MatchOption-at_some _ _ led c.in-Some-2.is c.in_ok-led.ensures of judges in
    let name = c.in-Some.ensures in
    record {
      scope = scope_syntax body.scope;
      at = subst (λ (f : ℕ). IsScopeAt of f (scope_syntax body.scope)) known.in_file known.scope.in_file;
      body = body_syntax body.body;
      has = known.has;
      item = item;
      among = has;
      there = (c.is_there.ensures of judges).0 c.if-not-is_there.false;
      used = name.1;
      uses = subst (λ (l : List Rename). Contains l name.1) c.deref.ensures.value name.2;
      is_at = ap (λ (i : Ident). i.span) name.3 ∙ name.0;
      named = ap ident_text (name.3 ∙ sym found.1);
      to = scope_syntax led.scope;
      leads = subst (λ (t : TopItem). LeadsToItem of (scope_syntax body.scope) item.path (scope_syntax led.scope) t) found.0 to.leads;
    })
