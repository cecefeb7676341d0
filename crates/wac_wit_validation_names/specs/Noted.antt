-- What an entry notes of where types come from.
use Rattle.std.specs.Prelude.{◌≡◌, ◌≢◌, List, Contains, Option, None, Some, IsSome, slice_get}
use Rattle.std.specs.Option.{option_map, unwrap_or}
use Rattle.wac_model.specs.Text.{Text}
use Rattle.wac_component.specs.Collection.{Collection, InterfaceContent, ResourceContent, UseContent}
use Rattle.wac_component.specs.Content.{named, use_content}
use Rattle.wac_component.specs.Id.{Id}
use Rattle.wac_component.specs.declared.items.ItemKind.{ItemKind}
use Rattle.wac_component.specs.declared.items.ItemKind.TheVariants.{«Type» as OfType}
use Rattle.wac_component.specs.declared.items.Type.{«Type» as TypeOf}
use Rattle.wac_component.specs.declared.items.Type.TheVariants.{Resource as TypeResource}
use Rattle.wac_wit_syntax.specs.declared.tree.Ident.{Ident}
use Rattle.wac_wit_syntax.specs.declared.tree.Rename.{Rename}
use Rattle.wac_wit_syntax.specs.declared.tree.TypeDef.TheVariants as def
use Rattle.wac_wit_syntax.specs.declared.tree.TypeExpr.TheVariants as ty
use Rattle.wac_wit_syntax.specs.declared.tree.TypeItem.{TypeItem}
use Rattle.wac_wit_validation_types.specs.Denoted.{renamed_by}
use Rattle.wac_wit_validation_types.specs.Origins.{IsOwnerOf, use_at}
use Rattle.wac_wit_validation_types.specs.Reading.{name_by, type_meaning}
use Rattle.wac_wit_scopes.specs.WitSources.{given_name, ident_text}
use Rattle.wac_wit_validation_names.specs.declared.noted.NotedUses.{NotedUses}
use Rattle.wac_wit_validation_names.specs.declared.places.FoundInterface.{FoundInterface}

-- the interface from which the type of a name is said to come
abbrev pub origin_at : List (Text × UseContent) → Text → Option Id
origin_at us n = option_map (λ (u : UseContent). u.interface) (use_at us n)

abbrev pub noted_uses : NotedUses → List (Text × UseContent)
noted_uses noted = named use_content noted.uses.now.entries

-- names become what they do by these in the entry
abbrev pub RenamesAs : NotedUses → List (List Rename) → Type 0
RenamesAs noted rss = (n m : Text) → name_by noted.new_names n ≡ Some m → renamed_by rss n ≡ m

-- nothing is said of where the type of a name comes from
abbrev pub HasNoOrigin : NotedUses → Text → Type 0
HasNoOrigin noted n = (rss : List (List Rename)) → RenamesAs noted rss → origin_at (noted_uses noted) (renamed_by rss n) ≡ None

-- the same is said of two names, or nothing of both
abbrev pub HaveOneOrigin : NotedUses → Text → Text → Type 0
HaveOneOrigin noted n m = (rss : List (List Rename)) → RenamesAs noted rss → origin_at (noted_uses noted) (renamed_by rss n) ≡ origin_at (noted_uses noted) (renamed_by rss m)

-- a type that is used is said to come from this interface, or from where it is said there to come from
abbrev pub TellsName : List (Text × UseContent) → List (List Rename) → List (Text × UseContent) → Id → Rename → Type 0
TellsName us rss others from r = origin_at us (renamed_by rss (given_name r.name r.alias)) ≡ Some (unwrap_or (origin_at others (ident_text r.name)) from)

-- the same, by what the entry that was found says
abbrev pub TellsFrom : Collection → NotedUses → FoundInterface → Rename → Type 0
TellsFrom c noted f r = (e : InterfaceContent) × (slice_get c.interfaces f.id.index ≡ Some e) × ((rss : List (List Rename)) → RenamesAs noted rss → TellsName (noted_uses noted) rss e.uses f.id r)

-- a type that is defined is said to come from where the type does that it is another name of, or else from nowhere
pub record TellsType (us : List (Text × UseContent)) (rss : List (List Rename)) (t : TypeItem) : Type 0 where
  pub another : (id : Ident) → t.def ≡ def.Alias (ty.Name id) → origin_at us (renamed_by rss (ident_text t.name)) ≡ origin_at us (renamed_by rss (ident_text id))
  pub own : ((id : Ident) → t.def ≢ def.Alias (ty.Name id)) → origin_at us (renamed_by rss (ident_text t.name)) ≡ None

abbrev pub TellsTypeAs : NotedUses → TypeItem → Type 0
TellsTypeAs noted t = (rss : List (List Rename)) → RenamesAs noted rss → TellsType (noted_uses noted) rss t

-- an interface has a type itself under this name, which the other one is
pub record HasRoot (c : Collection) (es : List (Text × ItemKind)) (n : Text) (from : Id) (root : Text) : Type 0 where
  pub entry : InterfaceContent
  pub at : slice_get c.interfaces from.index ≡ Some entry
  pub own : use_at entry.uses root ≡ None
  pub of : TypeOf
  pub among : Contains entry.exports (root, OfType of)
  pub is : TypeOf
  pub here : Contains es (n, OfType is)
  pub meant : IsSome (type_meaning c is)
  pub same : type_meaning c of ≡ type_meaning c is

-- the interface that is said of a name has its type itself
abbrev pub HasUseRoot : Collection → List (Text × ItemKind) → Text → UseContent → Type 0
HasUseRoot c es n u = HasRoot c es n u.interface (unwrap_or u.name n)

-- the owner of an export is that which is said of its name, if it is a resource
abbrev pub HasOwner : Collection → List (Text × UseContent) → Text → ItemKind → Type 0
HasOwner c us n k = (id : Id) → k ≡ OfType (TypeResource id) → (r : ResourceContent) → slice_get c.resources id.index ≡ Some r → IsOwnerOf us n r
