-- What the names of types and the types in syntax trees stand for (WIT.md, "Item: `use`", "Items:
use Rattle.std.specs.Prelude.{◌≡◌, ◌≢◌, ℕ, Bool, true, false, List, [], ◌∷◌, ◌++◌, Contains, Option, Some, None, Box, map, is_some, Vec, if◌then◌else◌, bytes_eq}
use Rattle.std.specs.Option.{option_to_list}
use Rattle.std.specs.declared.alloc.Global.{Global}
use Rattle.wac_model.specs.Text.{Text}
use Rattle.wac_model.specs.ValueTree.{ValueTree, borrow, enum, fixed_size_list, flags, future, list, map_of, no_parts, node}
use Rattle.wac_model.specs.ValueTree.{option, own, part, parts_of, primitive, record_of, result_of, stream, tuple, variant}
use Rattle.wac_model.specs.declared.primitive.PrimitiveType.{PrimitiveType}
use Rattle.wac_wit_scopes.specs.WitSources.{WitSources, ScopeSyntax, ident_text, given_name, IsEnabled, HasInterface, PathLeadsTo}
use Rattle.wac_wit_syntax.specs.declared.positions.Span.{Span}
use Rattle.wac_wit_syntax.specs.declared.tree.Case.{Case}
use Rattle.wac_wit_syntax.specs.declared.tree.Field.{Field}
use Rattle.wac_wit_syntax.specs.declared.tree.FuncItem.{FuncItem}
use Rattle.wac_wit_syntax.specs.declared.tree.Ident.{Ident}
use Rattle.wac_wit_syntax.specs.declared.tree.InterfaceDecl.{InterfaceDecl}
use Rattle.wac_wit_syntax.specs.declared.tree.InterfaceItem.{InterfaceItem}
use Rattle.wac_wit_syntax.specs.declared.tree.InterfaceItem.TheVariants as inside
use Rattle.wac_wit_syntax.specs.declared.tree.Method.{Method}
use Rattle.wac_wit_syntax.specs.declared.tree.Rename.{Rename}
use Rattle.wac_wit_syntax.specs.declared.tree.TypeDef.TheVariants as def
use Rattle.wac_wit_syntax.specs.declared.tree.TypeExpr.{TypeExpr}
use Rattle.wac_wit_syntax.specs.declared.tree.TypeExpr.TheVariants as ty
use Rattle.wac_wit_syntax.specs.declared.tree.TypeItem.{TypeItem}
use Rattle.wac_wit_syntax.specs.declared.tree.UseItem.{UseItem}

-- what a name of a type stands for: a value type, or a resource, by the name at its root
pub data Denoted : Type 0 where
  value_type : (of : ValueTree) → Denoted
  resource_type : (root : Text) → Denoted

-- where names are looked up: in what an interface or a world uses and defines
pub record Setting : Type 0 where
  pub sources : WitSources
  pub scope : ScopeSyntax
  pub uses : List UseItem
  pub types : List TypeItem
  pub funcs : List FuncItem
  -- the new names under which what is defined there comes in somewhere (`with`), the last ones first
  pub renames : List (List Rename)

abbrev pub uses_in : List InterfaceItem → List UseItem
uses_in [] = []
uses_in (inside.Use u ∷ is) = u ∷ uses_in is
uses_in (inside.Type t ∷ is) = uses_in is
uses_in (inside.Func f ∷ is) = uses_in is

abbrev pub types_in : List InterfaceItem → List TypeItem
types_in [] = []
types_in (inside.Use u ∷ is) = types_in is
types_in (inside.Type t ∷ is) = t ∷ types_in is
types_in (inside.Func f ∷ is) = types_in is

abbrev pub funcs_in : List InterfaceItem → List FuncItem
funcs_in [] = []
funcs_in (inside.Use u ∷ is) = funcs_in is
funcs_in (inside.Type t ∷ is) = funcs_in is
funcs_in (inside.Func f ∷ is) = f ∷ funcs_in is

abbrev pub interface_setting : WitSources → ScopeSyntax → List InterfaceItem → Setting
interface_setting all w is = record { sources = all; scope = w; uses = uses_in is; types = types_in is; funcs = funcs_in is; renames = [] }

-- the name that a name becomes: the new one that is given to it first, or itself (WIT.md, "Worlds", `with`)
abbrev pub renamed : List Rename → Text → Text
renamed [] n = n
renamed (r ∷ rs) n = if bytes_eq (ident_text r.name) n then given_name r.name r.alias else renamed rs n

-- what it becomes by all of these, of which the last ones stand first
abbrev pub renamed_by : List (List Rename) → Text → Text
renamed_by [] n = n
renamed_by (rs ∷ rss) n = renamed rs (renamed_by rss n)

-- the name of what is defined, where it comes in
abbrev pub type_name : Setting → TypeItem → Text
type_name s t = renamed_by s.renames (ident_text t.name)

abbrev pub field_names : List Field → List Text
field_names fs = map (λ f. ident_text f.name) fs

mutual
  -- the name of a type
  pub data NamesType : Setting → Text → Denoted → Type 0 where
    defined : {s : Setting} {n : Text} {m : Denoted} (t : TypeItem) → Contains s.types t → IsEnabled s.sources t.gates → ident_text t.name ≡ n → IsDefined s t m → NamesType s n m
    used : {s : Setting} {n i : Text} {m : Denoted} {v : ScopeSyntax} (u : UseItem) (r : Rename) (d : InterfaceDecl) → Contains s.uses u
        → IsEnabled s.sources u.gates → Contains u.names.items r → given_name r.name r.alias ≡ n
        → PathLeadsTo s.sources s.scope u.path v i → HasInterface s.sources v i d → NamesType (interface_setting s.sources v d.items.items) (ident_text r.name) m → NamesType s n m

  -- what a type with a name is
  pub data IsDefined : Setting → TypeItem → Denoted → Type 0 where
    another_name : {s : Setting} {t : TypeItem} {m : Denoted} (id : Ident) → t.def ≡ def.Alias (ty.Name id) → NamesType s (ident_text id) m → IsDefined s t m
    alias : {s : Setting} {t : TypeItem} {v : ValueTree} (e : TypeExpr) → t.def ≡ def.Alias e → ((id : Ident) → e ≢ ty.Name id) → IsValue s e v → IsDefined s t (value_type v)
    a_record : {s : Setting} {t : TypeItem} {vs : List ValueTree} (fs : Vec Field Global) → t.def ≡ def.Record fs → AreFieldsOf s fs.items vs
        → IsDefined s t (value_type (node (record_of (field_names fs.items)) (parts_of vs)))
    a_variant : {s : Setting} {t : TypeItem} {vs : List ValueTree} {cs : List (Text × Bool)} (of : Vec Case Global) → t.def ≡ def.Variant of
        → AreCasesOf s of.items cs vs → IsDefined s t (value_type (node (variant cs) (parts_of vs)))
    some_flags : {s : Setting} {t : TypeItem} (ns : Vec Ident Global) → t.def ≡ def.Flags ns → IsDefined s t (value_type (node (flags (map ident_text ns.items)) no_parts))
    an_enum : {s : Setting} {t : TypeItem} (ns : Vec Ident Global) → t.def ≡ def.Enum ns → IsDefined s t (value_type (node (enum (map ident_text ns.items)) no_parts))
    a_resource : {s : Setting} {t : TypeItem} (ms : Vec Method Global) → t.def ≡ def.Resource ms → IsDefined s t (resource_type (type_name s t))

  -- a type where one is used; a resource's name is an owned handle of it
  pub data IsValue : Setting → TypeExpr → ValueTree → Type 0 where
    a_primitive : {s : Setting} {p : PrimitiveType} {span : Span} → IsValue s (ty.Primitive p span) (node (primitive p) no_parts)
    name : {s : Setting} {id : Ident} {v : ValueTree} → NamesType s (ident_text id) (value_type v) → IsValue s (ty.Name id) v
    handle : {s : Setting} {id : Ident} {r : Text} → NamesType s (ident_text id) (resource_type r) → IsValue s (ty.Name id) (node (own r) no_parts)
    owned : {s : Setting} {id : Ident} {r : Text} → NamesType s (ident_text id) (resource_type r) → IsValue s (ty.Own id) (node (own r) no_parts)
    borrowed : {s : Setting} {id : Ident} {r : Text} → NamesType s (ident_text id) (resource_type r) → IsValue s (ty.Borrow id) (node (borrow r) no_parts)
    a_list : {s : Setting} {t : Box TypeExpr Global} {v : ValueTree} → IsValue s t.value v → IsValue s (ty.List t) (node list (part v no_parts))
    fixed_list : {s : Setting} {t : Box TypeExpr Global} {n : ℕ} {span : Span} {v : ValueTree} → IsValue s t.value v → IsValue s (ty.FixedList t n span) (node (fixed_size_list n) (part v no_parts))
    an_option : {s : Setting} {t : Box TypeExpr Global} {v : ValueTree} → IsValue s t.value v → IsValue s (ty.Option t) (node option (part v no_parts))
    a_result : {s : Setting} {ok err : Option (Box TypeExpr Global)} {x y : Option ValueTree} → IsOptional s ok x → IsOptional s err y
        → IsValue s (ty.Result ok err) (node (result_of (is_some x) (is_some y)) (parts_of (option_to_list x ++ option_to_list y)))
    a_tuple : {s : Setting} (ts : Vec TypeExpr Global) {span : Span} {vs : List ValueTree} → AreValuesOf s ts.items vs → IsValue s (ty.Tuple ts span) (node tuple (parts_of vs))
    a_map : {s : Setting} {k t : Box TypeExpr Global} {span : Span} {x v : ValueTree} → IsValue s k.value x → IsValue s t.value v
        → IsValue s (ty.Map k t span) (node map_of (part x (part v no_parts)))
    a_future : {s : Setting} {t : Option (Box TypeExpr Global)} {x : Option ValueTree} → IsOptional s t x → IsValue s (ty.Future t) (node (future (is_some x)) (parts_of (option_to_list x)))
    a_stream : {s : Setting} {t : Option (Box TypeExpr Global)} {x : Option ValueTree} → IsOptional s t x → IsValue s (ty.Stream t) (node (stream (is_some x)) (parts_of (option_to_list x)))

  pub data IsOptional : Setting → Option (Box TypeExpr Global) → Option ValueTree → Type 0 where
    nothing : {s : Setting} → IsOptional s None None
    something : {s : Setting} {t : Box TypeExpr Global} {v : ValueTree} → IsValue s t.value v → IsOptional s (Some t) (Some v)

  pub data AreValuesOf : Setting → List TypeExpr → List ValueTree → Type 0 where
    no_values : {s : Setting} → AreValuesOf s [] []
    more_values : {s : Setting} {t : TypeExpr} {ts : List TypeExpr} {v : ValueTree} {vs : List ValueTree} → IsValue s t v → AreValuesOf s ts vs → AreValuesOf s (t ∷ ts) (v ∷ vs)

  pub data AreFieldsOf : Setting → List Field → List ValueTree → Type 0 where
    no_fields : {s : Setting} → AreFieldsOf s [] []
    more_fields : {s : Setting} {f : Field} {fs : List Field} {v : ValueTree} {vs : List ValueTree} → IsValue s f.ty v → AreFieldsOf s fs vs → AreFieldsOf s (f ∷ fs) (v ∷ vs)

  -- each case's name, whether it has a type, and the types
  pub data AreCasesOf : Setting → List Case → List (Text × Bool) → List ValueTree → Type 0 where
    no_cases : {s : Setting} → AreCasesOf s [] [] []
    bare : {s : Setting} {c : Case} {cs : List Case} {ns : List (Text × Bool)} {vs : List ValueTree} → c.ty ≡ None → AreCasesOf s cs ns vs → AreCasesOf s (c ∷ cs) ((ident_text c.name, false) ∷ ns) vs
    with_type : {s : Setting} {c : Case} {cs : List Case} {ns : List (Text × Bool)} {v : ValueTree} {vs : List ValueTree} (t : TypeExpr) → c.ty ≡ Some t → IsValue s t v → AreCasesOf s cs ns vs
        → AreCasesOf s (c ∷ cs) ((ident_text c.name, true) ∷ ns) (v ∷ vs)
