-- What is wrong with a type that is used (WIT.md, "Item: `use`" and "Feature Gates").
use Rattle.std.specs.Prelude.{◌≡◌, ℕ, Contains}
use Rattle.wac_model.specs.Text.{Text}
use Rattle.wac_wit_refusals_sites.specs.Paths.{LeadsToItem}
use Rattle.wac_wit_refusals_sites.specs.Sites.{BodySyntax, HasBody, HasUseIn}
use Rattle.wac_wit_scopes.specs.WitSources.{IsEnabled, IsScopeAt, ScopeSyntax, WitSources, given_name, ident_text}
use Rattle.wac_wit_syntax.specs.declared.positions.Span.{Span}
use Rattle.wac_wit_syntax.specs.declared.tree.InterfaceDecl.{InterfaceDecl}
use Rattle.wac_wit_syntax.specs.declared.tree.InterfaceItem.{InterfaceItem}
use Rattle.wac_wit_syntax.specs.declared.tree.InterfaceItem.TheVariants as inside
use Rattle.wac_wit_syntax.specs.declared.tree.Rename.{Rename}
use Rattle.wac_wit_syntax.specs.declared.tree.TopItem.TheVariants as top
use Rattle.wac_wit_syntax.specs.declared.tree.UseItem.{UseItem}

-- a `use` that is there uses a type of an interface, whose name stands at a place
pub record IsUsedAt (of : WitSources) (file : ℕ) (span : Span) (d : InterfaceDecl) (n : Text) : Type 0 where
  pub scope : ScopeSyntax
  pub at : IsScopeAt of file scope
  pub body : BodySyntax
  pub has : HasBody of scope body
  pub item : UseItem
  pub among : HasUseIn body item
  pub there : IsEnabled of item.gates
  pub used : Rename
  pub uses : Contains item.names.items used
  pub is_at : used.name.span ≡ span
  pub named : ident_text used.name ≡ n
  pub to : ScopeSyntax
  pub leads : LeadsToItem of scope item.path to (top.Interface d)

-- an item of an interface gives a type a name
abbrev pub GivesTypeName : InterfaceItem → Text → Type 0
GivesTypeName (inside.Type t) n = ident_text t.name ≡ n
GivesTypeName (inside.Use u) n = (r : Rename) × Contains u.names.items r × (given_name r.name r.alias ≡ n)
GivesTypeName (inside.Func f) n = ⊥

-- no feature that is off hides it
abbrev pub IsInsideEnabled : WitSources → InterfaceItem → Type 0
IsInsideEnabled of (inside.Type t) = IsEnabled of t.gates
IsInsideEnabled of (inside.Use u) = IsEnabled of u.gates
IsInsideEnabled of (inside.Func f) = IsEnabled of f.gates

-- an interface has no type of a name that is used
pub record IsUnknownUsed (of : WitSources) (file : ℕ) (span : Span) : Type 0 where
  pub from : InterfaceDecl
  pub name : Text
  pub used : IsUsedAt of file span from name
  pub none : (t : InterfaceItem) → Contains from.items.items t → GivesTypeName t name → ⊥

-- an interface has a type of a name that is used, which a feature hides
pub record IsHiddenUsed (of : WitSources) (file : ℕ) (span : Span) : Type 0 where
  pub from : InterfaceDecl
  pub name : Text
  pub used : IsUsedAt of file span from name
  pub item : InterfaceItem
  pub among : Contains from.items.items item
  pub gives : GivesTypeName item name
  pub hidden : (t : InterfaceItem) → Contains from.items.items t → GivesTypeName t name → IsInsideEnabled of t → ⊥
