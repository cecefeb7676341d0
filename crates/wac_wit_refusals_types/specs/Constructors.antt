-- What constructors return (WIT.md, "Item: `resource`"; explainer, "Import and Export Definitions").
use Rattle.std.specs.Prelude.{◌≡◌, ℕ, Box, Option, Some, Vec}
use Rattle.std.specs.declared.alloc.Global.{Global}
use Rattle.wac_model.specs.Text.{Text}
use Rattle.wac_model.specs.declared.primitive.PrimitiveType.{PrimitiveType}
use Rattle.wac_wit_refusals_sites.specs.Sites.{BodySyntax}
use Rattle.wac_wit_refusals_sites.specs.TypeSites.{BodyAt, HasMethodAt}
use Rattle.wac_wit_scopes.specs.WitSources.{WitSources, ident_text}
use Rattle.wac_wit_syntax.specs.declared.positions.Span.{Span}
use Rattle.wac_wit_syntax.specs.declared.tree.Ident.{Ident}
use Rattle.wac_wit_syntax.specs.declared.tree.Method.{Method}
use Rattle.wac_wit_syntax.specs.declared.tree.MethodKind.TheVariants.{Constructor}
use Rattle.wac_wit_syntax.specs.declared.tree.TypeExpr.{TypeExpr}
use Rattle.wac_wit_syntax.specs.declared.tree.TypeExpr.TheVariants as ty
use Rattle.wac_wit_syntax.specs.declared.tree.TypeItem.{TypeItem}

-- an owned handle of what has this name, written as `r` or `own<r>`
abbrev pub IsHandleNamed : TypeExpr → Text → Type 0
IsHandleNamed (ty.Name id) n = ident_text id ≡ n
IsHandleNamed (ty.Own id) n = ident_text id ≡ n
IsHandleNamed _ n = ⊥

-- that, or a `result` that has it
pub data IsConstructedType (e : TypeExpr) (n : Text) : Type 0 where
  a_handle : IsHandleNamed e n → IsConstructedType e n
  a_result : (t : Box TypeExpr Global) (err : Option (Box TypeExpr Global)) → e ≡ ty.Result (Some t) err → IsHandleNamed t.value n → IsConstructedType e n

-- where a type stands, if the tree has that
pub data StandsThere : TypeExpr → Span → Type 0 where
  a_primitive : (p : PrimitiveType) (span : Span) → StandsThere (ty.Primitive p span) span
  a_fixed_list : (t : Box TypeExpr Global) (n : ℕ) (span : Span) → StandsThere (ty.FixedList t n span) span
  a_tuple : (ts : Vec TypeExpr Global) (span : Span) → StandsThere (ty.Tuple ts span) span
  a_map : (k t : Box TypeExpr Global) (span : Span) → StandsThere (ty.Map k t span) span
  a_name : (id : Ident) → StandsThere (ty.Name id) id.span
  an_own : (id : Ident) → StandsThere (ty.Own id) id.span
  a_borrow : (id : Ident) → StandsThere (ty.Borrow id) id.span

-- where a constructor is refused: where the type stands that it returns, or what a `result` has, or its own name
pub data IsReturnedPlace (m : Method) (e : TypeExpr) (span : Span) : Type 0 where
  at_type : StandsThere e span → IsReturnedPlace m e span
  at_ok : (t : Box TypeExpr Global) (err : Option (Box TypeExpr Global)) → e ≡ ty.Result (Some t) err → StandsThere t.value span → IsReturnedPlace m e span
  at_constructor : m.name.span ≡ span → IsReturnedPlace m e span

-- a constructor that is there returns a type that isn't written as its resource
pub record HasNotConstructed (of : WitSources) (b : BodySyntax) (span : Span) : Type 0 where
  pub index : ℕ
  pub method_index : ℕ
  pub resource : TypeItem
  pub method : Method
  pub has : HasMethodAt of b index method_index resource method
  pub kind : method.kind ≡ Constructor
  pub returned : TypeExpr
  pub returns : method.signature.returns ≡ Some returned
  pub other : IsConstructedType returned (ident_text resource.name) → ⊥
  pub place : IsReturnedPlace method returned span

pub record IsNotConstructed (of : WitSources) (file : ℕ) (span : Span) : Type 0 where
  pub site : BodyAt of file
  pub has : HasNotConstructed of site.body span
