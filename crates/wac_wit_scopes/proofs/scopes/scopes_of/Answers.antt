use Rattle.std.proofs.Common.{◌∙◌, ap, is_some, nat_eq, sym}
use Rattle.std.proofs.lemmas.List.Elements.{All-contains}
use Rattle.std.proofs.lemmas.Option.{IfSome_then, MatchOption-at_some}
use Rattle.std.proofs.lemmas.Result.{IfOk-weaker}
use Rattle.indexmap.specs.IndexMap.{get, get_by_text}
use Rattle.wac_wit_scopes.specs.Scopes.{IsKnownScope}
use Rattle.wac_wit_scopes.specs.WitSources.{sources_of}
use Rattle.wac_wit_scopes.proofs.AllScopes.{scopes_clear, scopes_found}
use Rattle.wac_wit_scopes.proofs.PathFacts.{contains_at}
use Rattle.wac_wit_scopes.proofs.ScopeFacts.{if_ok_both, knows_all}
use Rattle.wac_wit_scopes.proofs.scopes.scopes_of.Goals as goal

pub returns-clause-known : goal.returns-clause-known
returns-clause-known c = IfOk-weaker c.scopes_in.result _ _ (λ o h. IfSome_then o h (λ ws are features i w at.
    let files = c.args.files.now in
    let documents = c.args.documents.now in
    let groups = MatchOption-at_some _ _ c.in-Some.groups c.in-Some.is c.in_ok-groups.ensures.named features in
    let knows = knows_all files documents features (get_by_text c.in_ok-versions.versions) c.in_ok-versions.ensures in
    All-contains (IsKnownScope (sources_of files documents features)) ws.items w (are features groups knows) (contains_at ws.items i w at))) c.scopes_in.ensures.known

pub returns-clause-all : goal.returns-clause-all
returns-clause-all c = IfOk-weaker c.scopes_in.result _ _ (λ o h. IfSome_then o h (λ ws all features w is.
    let groups = MatchOption-at_some _ _ c.in-Some.groups c.in-Some.is c.in_ok-groups.ensures.all in
    scopes_found c.args.files.now c.args.documents.now features (get nat_eq c.in-Some.groups) groups ws.items all w is)) c.scopes_in.ensures.all

pub returns-clause-clear : goal.returns-clause-clear
returns-clause-clear c = if_ok_both c.scopes_in.result _ _ _ c.scopes_in.ensures.all c.scopes_in.ensures.clear (λ o found clear features.
    let named = MatchOption-at_some _ _ c.in-Some.groups c.in-Some.is c.in_ok-groups.ensures.named features in
    let groups = MatchOption-at_some _ _ c.in-Some.groups c.in-Some.is c.in_ok-groups.ensures.all in
    scopes_clear c.args.files.now c.args.documents.now features (get nat_eq c.in-Some.groups) groups named (cc) o found clear)

pub returns-in_default-clause-clear : goal.returns-in_default-clause-clear
returns-in_default-clause-clear c = λ features. (λ some. absurd (cc), λ h. sym (ap is_some c.in_default.is) ∙ (c.in_ok-groups.ensures.clear features h.0).1 h.1.one)
