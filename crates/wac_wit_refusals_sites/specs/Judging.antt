-- What is known while reasons are looked for.
use Rattle.std.specs.Prelude.{◌≡◌, ℕ, Contains, List, slice_get, Some, Vec}
use Rattle.std.specs.declared.alloc.Global.{Global}
use Rattle.wac_model.specs.Text.{Text}
use Rattle.wac_wit_names.specs.Features.{has_feature}
use Rattle.wac_wit_refusals_sites.specs.Sites.{BodySyntax, HasBody, interface_items, world_items, HasExternIn}
use Rattle.wac_wit_refusals_sites.specs.declared.bodies.Body.{Body}
use Rattle.wac_wit_refusals_sites.specs.declared.bodies.Body.TheVariants.{Interface, World}
use Rattle.wac_wit_refusals_sites.specs.declared.bodies.PlacedBody.{PlacedBody}
use Rattle.wac_wit_refusals_sites.specs.declared.judge.Judge.{Judge}
use Rattle.wac_wit_scopes.specs.Scopes.{HasScope, IsKnownScope, scope_syntax}
use Rattle.wac_wit_scopes.specs.WitSources.{IsEnabled, IsScopeOf, ScopeSyntax, WitSources, sources_of}
use Rattle.wac_wit_scopes.specs.declared.scopes.ScopeItems.{ScopeItems}
use Rattle.wac_wit_syntax.specs.declared.tree.ExternItem.{ExternItem}
use Rattle.wac_wit_syntax.specs.declared.tree.TopItem.TheVariants as top
use Rattle.wac_wit_syntax.specs.declared.tree.WorldDecl.{WorldDecl}

-- these are the sources whose refusals are looked at, and their scopes are known
pub record Judges (of : WitSources) (j : Judge) : Type 0 where
  pub is : of ≡ sources_of j.sources.files.now j.sources.documents.now j.sources.features
  pub features : (n : Text) → of.is_on n ≡ has_feature j.sources.features n
  pub known : (i : ℕ) (w : ScopeItems) → slice_get j.scopes.items i ≡ Some w → IsKnownScope of w
  pub all : (w : ScopeSyntax) → IsScopeOf of w → HasScope j.scopes.items w

abbrev pub body_syntax : Body → BodySyntax
body_syntax (Interface is) = interface_items is.now
body_syntax (World is) = world_items is.now

-- where something stands that gives names of types
pub record IsKnownBody (of : WitSources) (file : ℕ) (p : PlacedBody) : Type 0 where
  pub scope : IsKnownScope of p.scope
  pub in_file : p.scope.file ≡ file
  pub has : HasBody of (scope_syntax p.scope) (body_syntax p.body)

abbrev pub AreKnownBodies : WitSources → ℕ → List PlacedBody → Type 0
AreKnownBodies of file ps = (p : PlacedBody) → Contains ps p → IsKnownBody of file p

-- these stay known as others are put behind them
abbrev pub AddsBodies : WitSources → ℕ → Vec PlacedBody Global → Vec PlacedBody Global → Type 0
AddsBodies of file old new = AreKnownBodies of file old.items → AreKnownBodies of file new.items

-- a world of a scope that is there
pub record HasWorldIn (of : WitSources) (w : ScopeItems) (d : WorldDecl) : Type 0 where
  pub among : Contains w.items.now (top.World d)
  pub there : IsEnabled of d.gates

-- this follows where an import or an export is one of a world that is there
abbrev pub IfExternIn : WitSources → ScopeItems → ExternItem → Type 0 → Type 0
IfExternIn of w x P = (d : WorldDecl) → HasWorldIn of w d → HasExternIn d.items.items x → P
