-- Where the types of interfaces and worlds come from (WIT.md, "Item: `use`"), and what an entry says of that.
use Rattle.std.specs.Prelude.{◌≡◌, ◌≢◌, List, Option, Contains, None, Some, IsSome, slice_get}
use Rattle.std.specs.Map.{lookup}
use Rattle.std.specs.Option.{option_map, unwrap_or}
use Rattle.std.specs.Str.{bytes_eq}
use Rattle.wac_model.specs.Text.{Text}
use Rattle.wac_component.specs.Collection.{Collection, ResourceContent, UseContent}
use Rattle.wac_component.specs.Id.{Id}
use Rattle.wac_component.specs.Implicit.{identifier}
use Rattle.wac_component.specs.declared.items.ItemKind.{ItemKind}
use Rattle.wac_component.specs.declared.items.ItemKind.TheVariants.{«Type» as OfType}
use Rattle.wac_component.specs.declared.items.Type.TheVariants.{Resource as TypeResource}
use Rattle.wac_wit_syntax.specs.declared.tree.Ident.{Ident}
use Rattle.wac_wit_syntax.specs.declared.tree.Rename.{Rename}
use Rattle.wac_wit_syntax.specs.declared.tree.TypeDef.TheVariants as def
use Rattle.wac_wit_syntax.specs.declared.tree.TypeExpr.TheVariants as ty
use Rattle.wac_wit_syntax.specs.declared.tree.TypeItem.{TypeItem}
use Rattle.wac_wit_syntax.specs.declared.tree.UseItem.{UseItem}
use Rattle.wac_wit_validation_types.specs.Denoted.{Denoted, NamesType, Setting, interface_setting, renamed_by}
use Rattle.wac_wit_validation_types.specs.Placed.{LeadsToInterface, PlacedInterface, PlacedWorld, placed_identifier}
use Rattle.wac_wit_scopes.specs.WitSources.{IsEnabled, WitSources, given_name, ident_text}
use Rattle.wac_wit_validation_types.specs.Worlds.{BringsIn, world_setting}

abbrev pub placed_setting : WitSources → PlacedInterface → Setting
placed_setting of i = interface_setting of i.scope i.decl.items.items

-- the name is of a type that is defined here: one that isn't another name, or another name of one that is
pub data IsOwnName : Setting → Text → Type 0 where
  defined_here : {s : Setting} {n : Text} (t : TypeItem) → Contains s.types t → IsEnabled s.sources t.gates → ident_text t.name ≡ n → ((id : Ident) → t.def ≢ def.Alias (ty.Name id)) → IsOwnName s n
  named_here : {s : Setting} {n : Text} (t : TypeItem) (id : Ident) → Contains s.types t → IsEnabled s.sources t.gates → ident_text t.name ≡ n
      → t.def ≡ def.Alias (ty.Name id) → IsOwnName s (ident_text id) → IsOwnName s n

-- the name is of a type that this other interface defines
pub data ComesFrom : Setting → Text → PlacedInterface → Type 0 where
  used_from : {s : Setting} {n : Text} {i : PlacedInterface} (u : UseItem) (r : Rename) → Contains s.uses u → IsEnabled s.sources u.gates → Contains u.names.items r → given_name r.name r.alias ≡ n
      → LeadsToInterface s.sources s.scope u.path i → IsOwnName (placed_setting s.sources i) (ident_text r.name) → ComesFrom s n i
  used_through : {s : Setting} {n : Text} {v i : PlacedInterface} (u : UseItem) (r : Rename) → Contains s.uses u → IsEnabled s.sources u.gates
      → Contains u.names.items r → given_name r.name r.alias ≡ n
      → LeadsToInterface s.sources s.scope u.path v → ComesFrom (placed_setting s.sources v) (ident_text r.name) i → ComesFrom s n i
  named_so : {s : Setting} {n : Text} {i : PlacedInterface} (t : TypeItem) (id : Ident) → Contains s.types t → IsEnabled s.sources t.gates → ident_text t.name ≡ n
      → t.def ≡ def.Alias (ty.Name id) → ComesFrom s (ident_text id) i → ComesFrom s n i

-- what is noted of a name, if anything is
abbrev pub use_at : List (Text × UseContent) → Text → Option UseContent
use_at us n = lookup (bytes_eq n) us

-- what is noted of a name: the interface that defines its type, and a name of that there, the same one where none is said
pub record IsOriginOf (c : Collection) (s : Setting) (n : Text) (u : UseContent) : Type 0 where
  pub interface : PlacedInterface
  pub from : ComesFrom s n interface
  pub identified : identifier c u.interface ≡ Some (placed_identifier interface)
  pub own : IsOwnName (placed_setting s.sources interface) (unwrap_or u.name n)
  pub means : (m : Denoted) → NamesType s n m → NamesType (placed_setting s.sources interface) (unwrap_or u.name n) m

-- what is noted is so, and nothing that comes from elsewhere is left out
pub record AreUsesOf (c : Collection) (s : Setting) (us : List (Text × UseContent)) : Type 0 where
  pub each : (n : Text) (u : UseContent) → use_at us n ≡ Some u → IsOriginOf c s n u
  pub all : (n : Text) (i : PlacedInterface) → ComesFrom s n i → IsSome (use_at us n)

-- a resource that is another one's alias has as its owner the interface from which its name comes, if that is another one; the
-- name of one that is no alias comes from nowhere
pub record IsOwnerOf (us : List (Text × UseContent)) (n : Text) (r : ResourceContent) : Type 0 where
  pub owner : option_map (λ a. a.owner) r.alias ≡ option_map (λ a. option_map (λ (u : UseContent). u.interface) (use_at us n)) r.alias
  pub none : r.alias ≡ None → use_at us n ≡ None

-- what is noted of a name of a type that a world imports: that is what a name becomes of a type of a world that comes into it, and
-- that name comes from the interface that defines its type, which has there a name that is noted, or else this one
pub record IsWorldOriginOf (of : WitSources) (c : Collection) (w : PlacedWorld) (k : Text) (u : UseContent) : Type 0 where
  pub renames : List (List Rename)
  pub inside : PlacedWorld
  pub brings : BringsIn of w renames inside
  pub name : Text
  pub becomes : renamed_by renames name ≡ k
  pub interface : PlacedInterface
  pub from : ComesFrom (world_setting of renames inside) name interface
  pub identified : identifier c u.interface ≡ Some (placed_identifier interface)
  pub own : IsOwnName (placed_setting of interface) (unwrap_or u.name k)
  pub denoted : Denoted
  pub here : NamesType (world_setting of renames inside) name denoted
  pub there : NamesType (placed_setting of interface) (unwrap_or u.name k) denoted

-- what a world notes is so, and nothing that comes from elsewhere is left out
pub record AreWorldUsesOf (of : WitSources) (c : Collection) (w : PlacedWorld) (us : List (Text × UseContent)) : Type 0 where
  pub each : (k : Text) (u : UseContent) → use_at us k ≡ Some u → IsWorldOriginOf of c w k u
  pub all : (rss : List (List Rename)) (x : PlacedWorld) → BringsIn of w rss x → (n : Text) (i : PlacedInterface) → ComesFrom (world_setting of rss x) n i → IsSome (use_at us (renamed_by rss n))

abbrev pub AreOwnersOf : Collection → List (Text × UseContent) → List (Text × ItemKind) → Type 0
AreOwnersOf c us es = (n : Text) (id : Id) → Contains es (n, OfType (TypeResource id)) → (r : ResourceContent) → slice_get c.resources id.index ≡ Some r → IsOwnerOf us n r
