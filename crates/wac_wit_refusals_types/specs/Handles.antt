-- Handles of types that are no resources (WIT.md, "Item: `resource`" and "Types", `handle`).
use Rattle.std.specs.Prelude.{◌≡◌, ℕ, Contains}
use Rattle.wac_model.specs.Text.{Text}
use Rattle.wac_wit_refusals_sites.specs.Paths.{LeadsToItem}
use Rattle.wac_wit_refusals_sites.specs.Sites.{BodySyntax, HasUseIn, interface_items}
use Rattle.wac_wit_refusals_sites.specs.TypeSites.{BodyAt, HasType, HasTypeExpr}
use Rattle.wac_wit_scopes.specs.WitSources.{IsEnabled, ScopeSyntax, WitSources, given_name, ident_text}
use Rattle.wac_wit_syntax.specs.declared.positions.Span.{Span}
use Rattle.wac_wit_syntax.specs.declared.tree.Ident.{Ident}
use Rattle.wac_wit_syntax.specs.declared.tree.InterfaceDecl.{InterfaceDecl}
use Rattle.wac_wit_syntax.specs.declared.tree.Rename.{Rename}
use Rattle.wac_wit_syntax.specs.declared.tree.TopItem.TheVariants as top
use Rattle.wac_wit_syntax.specs.declared.tree.TypeDef.{TypeDef}
use Rattle.wac_wit_syntax.specs.declared.tree.TypeDef.TheVariants as def
use Rattle.wac_wit_syntax.specs.declared.tree.TypeExpr.{TypeExpr}
use Rattle.wac_wit_syntax.specs.declared.tree.TypeExpr.TheVariants as ty
use Rattle.wac_wit_syntax.specs.declared.tree.TypeItem.{TypeItem}
use Rattle.wac_wit_syntax.specs.declared.tree.UseItem.{UseItem}

-- it isn't the name of a type
abbrev pub IsNoTypeName : TypeExpr → Type 0
IsNoTypeName (ty.Name id) = ⊥
IsNoTypeName e = Unit {0}

-- a type of values: no resource, and no other name of a type
abbrev pub IsValueDef : TypeDef → Type 0
IsValueDef (def.Alias e) = IsNoTypeName e
IsValueDef (def.Record fs) = Unit {0}
IsValueDef (def.Variant cs) = Unit {0}
IsValueDef (def.Flags ns) = Unit {0}
IsValueDef (def.Enum ns) = Unit {0}
IsValueDef (def.Resource ms) = ⊥

-- the name of a type of values, which is defined there or elsewhere
pub data NamesValueType (of : WitSources) : ScopeSyntax → BodySyntax → Text → Type 0 where
  of_values : (w : ScopeSyntax) (b : BodySyntax) (t : TypeItem) → HasType of b t → IsValueDef t.def → NamesValueType of w b (ident_text t.name)
  of_another : (w : ScopeSyntax) (b : BodySyntax) (t : TypeItem) (id : Ident) → HasType of b t → t.def ≡ def.Alias (ty.Name id)
      → NamesValueType of w b (ident_text id) → NamesValueType of w b (ident_text t.name)
  of_used : (w v : ScopeSyntax) (b : BodySyntax) (u : UseItem) (r : Rename) (d : InterfaceDecl) → HasUseIn b u → IsEnabled of u.gates → Contains u.names.items r
      → LeadsToItem of w u.path v (top.Interface d) → IsEnabled of d.gates
      → NamesValueType of v (interface_items d.items.items) (ident_text r.name) → NamesValueType of w b (given_name r.name r.alias)

-- `own<T>` or `borrow<T>`
pub data IsHandleOf (id : Ident) : TypeExpr → Type 0 where
  an_own : IsHandleOf id (ty.Own id)
  a_borrow : IsHandleOf id (ty.Borrow id)

-- a handle of a type of values
pub record IsNotResource (of : WitSources) (file : ℕ) (span : Span) : Type 0 where
  pub site : BodyAt of file
  pub inside : Ident
  pub expr : TypeExpr
  pub has : HasTypeExpr of site.body inside expr
  pub name : Ident
  pub handle : IsHandleOf name expr
  pub place : name.span ≡ span
  pub values : NamesValueType of site.scope site.body (ident_text name)
