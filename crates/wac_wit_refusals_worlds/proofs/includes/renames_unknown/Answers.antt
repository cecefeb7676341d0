use Rattle.std.proofs.Common.{Contains, List, subst, sym}
use Rattle.std.proofs.lemmas.Option.{MatchOption-at_some}
use Rattle.wac_wit_scopes.specs.Scopes.{scope_syntax}
use Rattle.wac_wit_scopes.specs.WitSources.{ident_text}
use Rattle.wac_wit_syntax.specs.declared.tree.Rename.{Rename}
use Rattle.wac_wit_syntax.specs.declared.tree.WorldItem.{WorldItem}
use Rattle.wac_wit_refusals_worlds.specs.Includes.{LacksName, from_world}
use Rattle.wac_wit_refusals_sites.proofs.TypeFacts.{ok_value_then}
use Rattle.wac_wit_refusals_worlds.proofs.includes.renames_unknown.Goals as goal

pub returns-in-Some : goal.returns-in-Some
returns-in-Some c = ok_value_then _ _ c.lacks_some.result c.lacks_some.ensures (λ b h is of knows.
    let world = c.in-Some.world in
    let to = MatchOption-at_some _ _ world c.in-Some.is c.in_ok-world.ensures of knows in
    let found = h is of knows in
    record {
      renamed = found.renamed;
      renames = subst (λ (l : List Rename). Contains l found.renamed) c.deref.ensures.value found.among;
      to = scope_syntax world.scope;
      included = to.decl;
      leads = to.leads;
      lacks = subst (λ (l : List WorldItem). LacksName of (from_world (scope_syntax world.scope) l) (ident_text found.renamed.name)) (sym to.items) found.lacks;
    })
