use Rattle.std.proofs.Common.{◌≡◌, subst}
use Rattle.wac_wit_scopes.specs.Scopes.{scope_syntax}
use Rattle.wac_wit_scopes.specs.WitSources.{ident_text}
use Rattle.wac_wit_syntax.specs.declared.tree.IncludeItem.{IncludeItem}
use Rattle.wac_wit_refusals_worlds.specs.Includes.{LacksName, from_include}
use Rattle.wac_wit_refusals_sites.proofs.TypeFacts.{ok_value_then}
use Rattle.wac_wit_refusals_worlds.proofs.sought_names.seek_by_item.Goals as goal

pub returns-in-Include : goal.returns-in-Include
returns-in-Include c = ok_value_then _ _ c.seek_by_include.result c.seek_by_include.ensures (λ b h is of knows all.
    let before = h is of knows all in (
      before.0,
      λ i same there.
          let one : c.in-Include.it ≡ i = cc in
          subst (λ (x : IncludeItem). LacksName of (from_include (scope_syntax c.args.from.now.world.scope) x) (ident_text c.args.from.now.name.now)) one before.1,
    ))
