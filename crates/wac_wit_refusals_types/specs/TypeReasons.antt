-- What is wrong with a type by itself (WIT.md, "Item: `record`" and so on; explainer, "Type Definitions").
use Rattle.std.specs.Prelude.{◌≡◌, ◌≢◌, ◌<◌, ℕ, [], Box, length}
use Rattle.std.specs.declared.alloc.Global.{Global}
use Rattle.wac_wit_refusals_sites.specs.Sites.{BodySyntax}
use Rattle.wac_wit_refusals_sites.specs.TypeSites.{AreOneName, BodyAt, HasMethodAt, HasTypeExpr, IsTypeNamedAt}
use Rattle.wac_wit_scopes.specs.WitSources.{WitSources, ident_text}
use Rattle.wac_wit_syntax.specs.declared.positions.Span.{Span}
use Rattle.wac_wit_syntax.specs.declared.tree.Ident.{Ident}
use Rattle.wac_wit_syntax.specs.declared.tree.Method.{Method}
use Rattle.wac_wit_syntax.specs.declared.tree.MethodKind.TheVariants.{Constructor}
use Rattle.wac_wit_syntax.specs.declared.tree.TypeDef.{TypeDef}
use Rattle.wac_wit_syntax.specs.declared.tree.TypeDef.TheVariants as def
use Rattle.wac_wit_syntax.specs.declared.tree.TypeExpr.{TypeExpr}
use Rattle.wac_wit_syntax.specs.declared.tree.TypeExpr.TheVariants as ty
use Rattle.wac_wit_syntax.specs.declared.tree.TypeItem.{TypeItem}

-- more flags than a value has at most
abbrev pub HasManyFlags : TypeDef → Type 0
HasManyFlags (def.Flags ns) = 32 < length ns.items
HasManyFlags (def.Alias e) = ⊥
HasManyFlags (def.Record fs) = ⊥
HasManyFlags (def.Variant cs) = ⊥
HasManyFlags (def.Enum ns) = ⊥
HasManyFlags (def.Resource ms) = ⊥

pub record IsManyFlags (of : WitSources) (file : ℕ) (span : Span) : Type 0 where
  pub type_item : TypeItem
  pub at : IsTypeNamedAt of file span type_item
  pub many : HasManyFlags type_item.def

-- no field, no case, no flag or no name
abbrev pub HasNothingIn : TypeDef → Type 0
HasNothingIn (def.Record fs) = fs.items ≡ []
HasNothingIn (def.Variant cs) = cs.items ≡ []
HasNothingIn (def.Flags ns) = ns.items ≡ []
HasNothingIn (def.Enum ns) = ns.items ≡ []
HasNothingIn (def.Alias e) = ⊥
HasNothingIn (def.Resource ms) = ⊥

pub record IsEmpty (of : WitSources) (file : ℕ) (span : Span) : Type 0 where
  pub type_item : TypeItem
  pub at : IsTypeNamedAt of file span type_item
  pub nothing : HasNothingIn type_item.def

-- it is `list<T, 0>`, and stands at a place
abbrev pub IsLengthZero : TypeExpr → Span → Type 0
IsLengthZero e span = (t : Box TypeExpr Global) × (e ≡ ty.FixedList t 0 span)

pub record HasZeroLength (of : WitSources) (b : BodySyntax) (span : Span) : Type 0 where
  pub inside : Ident
  pub expr : TypeExpr
  pub has : HasTypeExpr of b inside expr
  pub is : IsLengthZero expr span

pub record IsZeroLength (of : WitSources) (file : ℕ) (span : Span) : Type 0 where
  pub site : BodyAt of file
  pub has : HasZeroLength of site.body span

-- a method or a static function has the name of its resource, but for the case of letters
pub record NamesResource (t : TypeItem) (m : Method) : Type 0 where
  pub kind : m.kind ≢ Constructor
  pub same : AreOneName (ident_text t.name) (ident_text m.name)

pub record HasNamedAsResource (of : WitSources) (b : BodySyntax) (span : Span) : Type 0 where
  pub index : ℕ
  pub method_index : ℕ
  pub resource : TypeItem
  pub method : Method
  pub has : HasMethodAt of b index method_index resource method
  pub names : NamesResource resource method
  pub place : method.name.span ≡ span

pub record IsNamedAsResource (of : WitSources) (file : ℕ) (span : Span) : Type 0 where
  pub site : BodyAt of file
  pub has : HasNamedAsResource of site.body span
