use Rattle.std.proofs.Common.{take}
use Rattle.std.specs.Prelude.{All}
use Rattle.indexmap.specs.IndexMap.{get_by_text}
use Rattle.wac_wit_syntax.specs.declared.tree.NestedPackage.{NestedPackage}
use Rattle.wac_wit_scopes.specs.Scopes.{HasScope}
use Rattle.wac_wit_scopes.specs.Naming.{AddsScopes, HasNested}
use Rattle.wac_wit_scopes.specs.WitSources.{ScopeSyntax, WitSources, scope_in}
use Rattle.wac_wit_scopes.proofs.scopes.push_nested.Given as goal

abbrev pub invariant-loop-nested : goal.invariant-loop-nested
invariant-loop-nested l = record {
  known : (of : WitSources) → HasNested of l.place l.packages → AddsScopes of (get_by_text l.versions) l.initial.scopes.items l.scopes.items;
  keeps : (w : ScopeSyntax) → HasScope l.initial.scopes.items w → HasScope l.scopes.items w;
  has : All (λ (p : NestedPackage). HasScope l.scopes.items (scope_in p.name p.items.items)) (take l.nested-index l.packages);
}
