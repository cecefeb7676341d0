-- Where types are defined, used and written in interfaces and worlds (WIT.md, "Item: `interface`", "Item: `use`", "Items: type"
use Rattle.std.specs.Prelude.{◌≡◌, ℕ, Contains, List, Option, Some, Box, Vec, slice_get}
use Rattle.wac_wit_scopes.specs.WitSources.{WitSources, IsEnabled, IsScopeAt, ScopeSyntax, given_name, ident_text}
use Rattle.wac_wit_syntax.specs.declared.positions.Span.{Span}
use Rattle.wac_wit_syntax.specs.declared.tree.TypeItem.{TypeItem}
-- and "Types").
use Rattle.std.specs.Str.{str_to_ascii_lowercase}
use Rattle.std.specs.declared.alloc.Global.{Global}
use Rattle.wac_model.specs.Text.{Text}
use Rattle.wac_wit_refusals_sites.specs.Sites.{BodySyntax, HasBody, HasExternIn, HasTypeItemIn, HasUseIn, interface_items, world_items}
use Rattle.wac_wit_syntax.specs.declared.tree.Case.{Case}
use Rattle.wac_wit_syntax.specs.declared.tree.Extern.TheVariants as extern
use Rattle.wac_wit_syntax.specs.declared.tree.ExternItem.{ExternItem}
use Rattle.wac_wit_syntax.specs.declared.tree.Field.{Field}
use Rattle.wac_wit_syntax.specs.declared.tree.FuncItem.{FuncItem}
use Rattle.wac_wit_syntax.specs.declared.tree.Gates.{Gates}
use Rattle.wac_wit_syntax.specs.declared.tree.Ident.{Ident}
use Rattle.wac_wit_syntax.specs.declared.tree.InterfaceItem.{InterfaceItem}
use Rattle.wac_wit_syntax.specs.declared.tree.InterfaceItem.TheVariants as inside
use Rattle.wac_wit_syntax.specs.declared.tree.Method.{Method}
use Rattle.wac_wit_syntax.specs.declared.tree.Rename.{Rename}
use Rattle.wac_wit_syntax.specs.declared.tree.Signature.{Signature}
use Rattle.wac_wit_syntax.specs.declared.tree.TypeDef.{TypeDef}
use Rattle.wac_wit_syntax.specs.declared.tree.TypeDef.TheVariants as def
use Rattle.wac_wit_syntax.specs.declared.tree.TypeExpr.{TypeExpr}
use Rattle.wac_wit_syntax.specs.declared.tree.TypeExpr.TheVariants as ty
use Rattle.wac_wit_syntax.specs.declared.tree.UseItem.{UseItem}
use Rattle.wac_wit_syntax.specs.declared.tree.WorldItem.{WorldItem}
use Rattle.wac_wit_syntax.specs.declared.tree.WorldItem.TheVariants as world_item

-- an interface or a world of a file
pub record BodyAt (of : WitSources) (file : ℕ) : Type 0 where
  pub scope : ScopeSyntax
  pub at : IsScopeAt of file scope
  pub body : BodySyntax
  pub has : HasBody of scope body

-- the two differ in the case of letters at most
abbrev pub AreOneName : Text → Text → Type 0
AreOneName m n = str_to_ascii_lowercase m ≡ str_to_ascii_lowercase n

-- the item at an index defines a type, whether a feature hides it or not
abbrev pub IsTypeAt : BodySyntax → ℕ → TypeItem → Type 0
IsTypeAt (interface_items is) i t = slice_get is i ≡ Some (inside.Type t)
IsTypeAt (world_items is) i t = slice_get is i ≡ Some (world_item.Type t)

-- the item at an index uses types, whether a feature hides it or not
abbrev pub IsUseAt : BodySyntax → ℕ → UseItem → Type 0
IsUseAt (interface_items is) i u = slice_get is i ≡ Some (inside.Use u)
IsUseAt (world_items is) i u = slice_get is i ≡ Some (world_item.Use u)

-- a type that is defined there, and that no feature hides
pub record HasType (of : WitSources) (b : BodySyntax) (t : TypeItem) : Type 0 where
  pub among : HasTypeItemIn b t
  pub there : IsEnabled of t.gates

-- a function of a resource, and the indices of both
pub record HasMethodAt (of : WitSources) (b : BodySyntax) (i j : ℕ) (t : TypeItem) (m : Method) : Type 0 where
  pub resource : IsTypeAt b i t
  pub resource_there : IsEnabled of t.gates
  pub methods : Vec Method Global
  pub is_resource : t.def ≡ def.Resource methods
  pub at : slice_get methods.items j ≡ Some m
  pub there : IsEnabled of m.gates

-- the name of a function, and its parameters and its result
pub data HasSignature (of : WitSources) : BodySyntax → Ident → Signature → Type 0 where
  of_function : (is : List InterfaceItem) (f : FuncItem) → Contains is (inside.Func f) → IsEnabled of f.gates → HasSignature of (interface_items is) f.name f.signature
  of_method : (b : BodySyntax) (i j : ℕ) (t : TypeItem) (m : Method) → HasMethodAt of b i j t m → HasSignature of b m.name m.signature
  of_extern : (is : List WorldItem) (x : ExternItem) (n : Ident) (s : Signature) → HasExternIn is x → IsEnabled of x.gates → x.what ≡ extern.Func n s → HasSignature of (world_items is) n s

-- what types are written in: the definition of a type, or the parameters and the result of a function
pub data TypedSyntax : Type 0 where
  a_definition : TypeDef → TypedSyntax
  a_signature : Signature → TypedSyntax

-- what a type is made of
pub data IsPart : TypeExpr → TypeExpr → Type 0 where
  of_list : (t : Box TypeExpr Global) → IsPart (ty.List t) t.value
  of_fixed_list : (t : Box TypeExpr Global) (n : ℕ) (span : Span) → IsPart (ty.FixedList t n span) t.value
  of_option : (t : Box TypeExpr Global) → IsPart (ty.Option t) t.value
  of_ok : (t : Box TypeExpr Global) (err : Option (Box TypeExpr Global)) → IsPart (ty.Result (Some t) err) t.value
  of_err : (ok : Option (Box TypeExpr Global)) (t : Box TypeExpr Global) → IsPart (ty.Result ok (Some t)) t.value
  of_tuple : (ts : Vec TypeExpr Global) (span : Span) (t : TypeExpr) → Contains ts.items t → IsPart (ty.Tuple ts span) t
  of_key : (k t : Box TypeExpr Global) (span : Span) → IsPart (ty.Map k t span) k.value
  of_value : (k t : Box TypeExpr Global) (span : Span) → IsPart (ty.Map k t span) t.value
  of_future : (t : Box TypeExpr Global) → IsPart (ty.Future (Some t)) t.value
  of_stream : (t : Box TypeExpr Global) → IsPart (ty.Stream (Some t)) t.value

-- a type is written there, as a whole or as a part of another
pub data IsWritten : TypedSyntax → TypeExpr → Type 0 where
  an_alias : (e : TypeExpr) → IsWritten (a_definition (def.Alias e)) e
  a_field : (fs : Vec Field Global) (f : Field) → Contains fs.items f → IsWritten (a_definition (def.Record fs)) f.ty
  a_case : (cs : Vec Case Global) (c : Case) (e : TypeExpr) → Contains cs.items c → c.ty ≡ Some e → IsWritten (a_definition (def.Variant cs)) e
  a_parameter : (s : Signature) (f : Field) → Contains s.params.items f → IsWritten (a_signature s) f.ty
  a_result : (s : Signature) (e : TypeExpr) → s.returns ≡ Some e → IsWritten (a_signature s) e
  a_part : (s : TypedSyntax) (e p : TypeExpr) → IsWritten s e → IsPart e p → IsWritten s p

-- the name of a type or of a function that is there, and what types are written in
pub data HasTyped (of : WitSources) (b : BodySyntax) : Ident → TypedSyntax → Type 0 where
  of_type : (t : TypeItem) → HasType of b t → HasTyped of b t.name (a_definition t.def)
  of_signature : (n : Ident) (s : Signature) → HasSignature of b n s → HasTyped of b n (a_signature s)

-- a type is written in the type or the function that has this name
pub record HasTypeExpr (of : WitSources) (b : BodySyntax) (n : Ident) (e : TypeExpr) : Type 0 where
  pub typed : TypedSyntax
  pub has : HasTyped of b n typed
  pub written : IsWritten typed e

-- a type that is given by its name
pub data IsTypeName (id : Ident) : TypeExpr → Type 0 where
  a_type_name : IsTypeName id (ty.Name id)
  an_owned_handle : IsTypeName id (ty.Own id)
  a_borrowed_handle : IsTypeName id (ty.Borrow id)

-- the name of a type is written in the type or the function that has the name `n`
pub record HasTypeName (of : WitSources) (b : BodySyntax) (n id : Ident) : Type 0 where
  pub expr : TypeExpr
  pub has : HasTypeExpr of b n expr
  pub is : IsTypeName id expr

-- an item with these attributes gives a name to a type there
pub data IsTypeGiven (b : BodySyntax) (n : Text) : Gates → Type 0 where
  by_type : (t : TypeItem) → HasTypeItemIn b t → ident_text t.name ≡ n → IsTypeGiven b n t.gates
  by_used : (u : UseItem) (r : Rename) → HasUseIn b u → Contains u.names.items r → given_name r.name r.alias ≡ n → IsTypeGiven b n u.gates

-- a type is there whose name stands at a place
pub record IsTypeNamedAt (of : WitSources) (file : ℕ) (span : Span) (t : TypeItem) : Type 0 where
  pub site : BodyAt of file
  pub has : HasType of site.body t
  pub place : t.name.span ≡ span
