-- What names and types stand for is one thing, where settings give each name once and their paths lead to one interface.
use Rattle.std.proofs.Common.{◌≡◌, ◌≢◌, ◌∙◌, ◌⊎◌, inl, inr, ℕ, Bool, true, false, List, [], ◌∷◌, ◌++◌, Box, Option, Some, None, Vec, Global, is_some, map, refl, sym, ap, subst}
use Rattle.std.specs.Option.{option_to_list}
use Rattle.std.proofs.lemmas.Option.{same_Some}
use Rattle.wac_model.specs.Text.{Text}
use Rattle.wac_model.specs.declared.primitive.PrimitiveType.{PrimitiveType}
use Rattle.wac_model.specs.ValueTree.{FuncTree, ValueTree, borrow, enum, fixed_size_list, flags, future, list, map_of, no_parts, node, option, own, part, parts_of, primitive, record_of}
use Rattle.wac_model.specs.ValueTree.{result_of, stream, tuple, variant}
use Rattle.wac_wit_syntax.specs.declared.positions.Span.{Span}
use Rattle.wac_wit_syntax.specs.declared.tree.Case.{Case}
use Rattle.wac_wit_syntax.specs.declared.tree.Field.{Field}
use Rattle.wac_wit_syntax.specs.declared.tree.FuncItem.{FuncItem}
use Rattle.wac_wit_syntax.specs.declared.tree.Ident.{Ident}
use Rattle.wac_wit_syntax.specs.declared.tree.InterfaceDecl.{InterfaceDecl}
use Rattle.wac_wit_syntax.specs.declared.tree.Rename.{Rename}
use Rattle.wac_wit_syntax.specs.declared.tree.Signature.{Signature}
use Rattle.wac_wit_syntax.specs.declared.tree.TypeDef.{TypeDef}
use Rattle.wac_wit_syntax.specs.declared.tree.TypeDef.TheVariants as def
use Rattle.wac_wit_syntax.specs.declared.tree.TypeExpr.{TypeExpr}
use Rattle.wac_wit_syntax.specs.declared.tree.TypeExpr.TheOpen.{TypeExpr-F}
use Rattle.wac_wit_syntax.specs.declared.tree.TypeExpr.TheVariants as ty
use Rattle.wac_wit_syntax.specs.declared.tree.TypeExpr.TheViews.{out-TypeExpr, out-roll-TypeExpr}
use Rattle.wac_wit_syntax.specs.declared.tree.TypeItem.{TypeItem}
use Rattle.wac_wit_syntax.specs.declared.tree.UseItem.{UseItem}
use Rattle.wac_wit_validation_types.specs.Denoted.{AreCasesOf, AreFieldsOf, AreValuesOf, Denoted, IsDefined, IsOptional, IsValue, NamesType, Setting, a_future, a_list, a_map, a_primitive}
use Rattle.wac_wit_validation_types.specs.Denoted.{a_record, a_resource, a_result, a_stream, a_tuple, a_variant, alias, an_enum, an_option, another_name, bare, borrowed, defined}
use Rattle.wac_wit_validation_types.specs.Denoted.{field_names, fixed_list, handle, interface_setting, more_fields, more_values, name, no_cases, no_fields, no_values, nothing, owned}
use Rattle.wac_wit_validation_types.specs.Denoted.{resource_type, some_flags, something, type_name, used, value_type, with_type}
use Rattle.wac_wit_validation_types.specs.Functions.{IsFuncOf, IsReturned, returns, returns_nothing, with_names}
use Rattle.wac_wit_validation_types.specs.OneMeaning.{AllGiveOnce, GivesOnce, GivesUse, HaveOneMeaning}
use Rattle.wac_wit_validation_types.specs.Placed.{IsUnambiguous, PlacedInterface}
use Rattle.wac_wit_scopes.specs.WitSources.{HasInterface, IsScopeOf, PathLeadsTo, ScopeSyntax, WitSources, ident_text}

value_type-same : (v w : ValueTree) → value_type v ≡ value_type w → v ≡ w
value_type-same v w e = cc

resource_type-same : (r q : Text) → resource_type r ≡ resource_type q → r ≡ q
resource_type-same r q e = cc

no_resource : {A : Type 0} (v : ValueTree) (r : Text) → value_type v ≡ resource_type r → A
no_resource v r e = absurd (cc)

-- what a type is by its outermost layer
abbrev pub LayerOf : Setting → TypeExpr-F TypeExpr → ValueTree → Type 0
LayerOf s (TypeExpr-F.Primitive p span) w = w ≡ node (primitive p) no_parts
LayerOf s (TypeExpr-F.Name id) w = NamesType s (ident_text id) (value_type w) ⊎ ((r : Text) × NamesType s (ident_text id) (resource_type r) × (w ≡ node (own r) no_parts))
LayerOf s (TypeExpr-F.List t) w = (v : ValueTree) × IsValue s t.value v × (w ≡ node list (part v no_parts))
LayerOf s (TypeExpr-F.FixedList t n span) w = (v : ValueTree) × IsValue s t.value v × (w ≡ node (fixed_size_list n) (part v no_parts))
LayerOf s (TypeExpr-F.Option t) w = (v : ValueTree) × IsValue s t.value v × (w ≡ node option (part v no_parts))
LayerOf s (TypeExpr-F.Result a b) w = (x : Option ValueTree) × (y : Option ValueTree) × IsOptional s a x × IsOptional s b y × (w ≡ node (result_of (is_some x) (is_some y)) (parts_of (option_to_list x ++ option_to_list y)))
LayerOf s (TypeExpr-F.Tuple ts span) w = (vs : List ValueTree) × AreValuesOf s ts.items vs × (w ≡ node tuple (parts_of vs))
LayerOf s (TypeExpr-F.Map k t span) w = (x : ValueTree) × (v : ValueTree) × IsValue s k.value x × IsValue s t.value v × (w ≡ node map_of (part x (part v no_parts)))
LayerOf s (TypeExpr-F.Future t) w = (x : Option ValueTree) × IsOptional s t x × (w ≡ node (future (is_some x)) (parts_of (option_to_list x)))
LayerOf s (TypeExpr-F.Stream t) w = (x : Option ValueTree) × IsOptional s t x × (w ≡ node (stream (is_some x)) (parts_of (option_to_list x)))
LayerOf s (TypeExpr-F.Own id) w = (r : Text) × NamesType s (ident_text id) (resource_type r) × (w ≡ node (own r) no_parts)
LayerOf s (TypeExpr-F.Borrow id) w = (r : Text) × NamesType s (ident_text id) (resource_type r) × (w ≡ node (borrow r) no_parts)

out-Primitive : (p : PrimitiveType) (span : Span) → out-TypeExpr (ty.Primitive p span) ≡ TypeExpr-F.Primitive p span
out-Primitive p span = ap out-TypeExpr (sym (ty.rolls-Primitive p span)) ∙ out-roll-TypeExpr (TypeExpr-F.Primitive p span)

out-Name : (id : Ident) → out-TypeExpr (ty.Name id) ≡ TypeExpr-F.Name id
out-Name id = ap out-TypeExpr (sym (ty.rolls-Name id)) ∙ out-roll-TypeExpr (TypeExpr-F.Name id)

out-List : (t : Box TypeExpr Global) → out-TypeExpr (ty.List t) ≡ TypeExpr-F.List t
out-List t = ap out-TypeExpr (sym (ty.rolls-List t)) ∙ out-roll-TypeExpr (TypeExpr-F.List t)

out-FixedList : (t : Box TypeExpr Global) (n : ℕ) (span : Span) → out-TypeExpr (ty.FixedList t n span) ≡ TypeExpr-F.FixedList t n span
out-FixedList t n span = ap out-TypeExpr (sym (ty.rolls-FixedList t n span)) ∙ out-roll-TypeExpr (TypeExpr-F.FixedList t n span)

out-Option : (t : Box TypeExpr Global) → out-TypeExpr (ty.Option t) ≡ TypeExpr-F.Option t
out-Option t = ap out-TypeExpr (sym (ty.rolls-Option t)) ∙ out-roll-TypeExpr (TypeExpr-F.Option t)

out-Result : (a : Option (Box TypeExpr Global)) (b : Option (Box TypeExpr Global)) → out-TypeExpr (ty.Result a b) ≡ TypeExpr-F.Result a b
out-Result a b = ap out-TypeExpr (sym (ty.rolls-Result a b)) ∙ out-roll-TypeExpr (TypeExpr-F.Result a b)

out-Tuple : (ts : Vec TypeExpr Global) (span : Span) → out-TypeExpr (ty.Tuple ts span) ≡ TypeExpr-F.Tuple ts span
out-Tuple ts span = ap out-TypeExpr (sym (ty.rolls-Tuple ts span)) ∙ out-roll-TypeExpr (TypeExpr-F.Tuple ts span)

out-Map : (k : Box TypeExpr Global) (t : Box TypeExpr Global) (span : Span) → out-TypeExpr (ty.Map k t span) ≡ TypeExpr-F.Map k t span
out-Map k t span = ap out-TypeExpr (sym (ty.rolls-Map k t span)) ∙ out-roll-TypeExpr (TypeExpr-F.Map k t span)

out-Future : (t : Option (Box TypeExpr Global)) → out-TypeExpr (ty.Future t) ≡ TypeExpr-F.Future t
out-Future t = ap out-TypeExpr (sym (ty.rolls-Future t)) ∙ out-roll-TypeExpr (TypeExpr-F.Future t)

out-Stream : (t : Option (Box TypeExpr Global)) → out-TypeExpr (ty.Stream t) ≡ TypeExpr-F.Stream t
out-Stream t = ap out-TypeExpr (sym (ty.rolls-Stream t)) ∙ out-roll-TypeExpr (TypeExpr-F.Stream t)

pub out-Own : (id : Ident) → out-TypeExpr (ty.Own id) ≡ TypeExpr-F.Own id
out-Own id = ap out-TypeExpr (sym (ty.rolls-Own id)) ∙ out-roll-TypeExpr (TypeExpr-F.Own id)

pub out-Borrow : (id : Ident) → out-TypeExpr (ty.Borrow id) ≡ TypeExpr-F.Borrow id
out-Borrow id = ap out-TypeExpr (sym (ty.rolls-Borrow id)) ∙ out-roll-TypeExpr (TypeExpr-F.Borrow id)

value_of : (s : Setting) (e : TypeExpr) (w : ValueTree) → IsValue s e w → LayerOf s (out-TypeExpr e) w
value_of s _ w (a_primitive {p = p} {span = span}) = subst (λ (l : TypeExpr-F TypeExpr). LayerOf s l w) (sym (out-Primitive p span)) refl
value_of s _ w (name {id = id} h) = subst (λ (l : TypeExpr-F TypeExpr). LayerOf s l w) (sym (out-Name id)) (inl h)
value_of s _ w (handle {id = id} h) = subst (λ (l : TypeExpr-F TypeExpr). LayerOf s l w) (sym (out-Name id)) (inr (_, h, refl))
value_of s _ w (owned {id = id} h) = subst (λ (l : TypeExpr-F TypeExpr). LayerOf s l w) (sym (out-Own id)) (_, h, refl)
value_of s _ w (borrowed {id = id} h) = subst (λ (l : TypeExpr-F TypeExpr). LayerOf s l w) (sym (out-Borrow id)) (_, h, refl)
value_of s _ w (a_list {t = t} h) = subst (λ (l : TypeExpr-F TypeExpr). LayerOf s l w) (sym (out-List t)) (_, h, refl)
value_of s _ w (fixed_list {t = t} {n = n} {span = span} h) = subst (λ (l : TypeExpr-F TypeExpr). LayerOf s l w) (sym (out-FixedList t n span)) (_, h, refl)
value_of s _ w (an_option {t = t} h) = subst (λ (l : TypeExpr-F TypeExpr). LayerOf s l w) (sym (out-Option t)) (_, h, refl)
value_of s _ w (a_result {ok = a} {err = b} h k) = subst (λ (l : TypeExpr-F TypeExpr). LayerOf s l w) (sym (out-Result a b)) (_, _, h, k, refl)
value_of s _ w (a_tuple ts {span = span} h) = subst (λ (l : TypeExpr-F TypeExpr). LayerOf s l w) (sym (out-Tuple ts span)) (_, h, refl)
value_of s _ w (a_map {k = k} {t = t} {span = span} h i) = subst (λ (l : TypeExpr-F TypeExpr). LayerOf s l w) (sym (out-Map k t span)) (_, _, h, i, refl)
value_of s _ w (a_future {t = t} h) = subst (λ (l : TypeExpr-F TypeExpr). LayerOf s l w) (sym (out-Future t)) (_, h, refl)
value_of s _ w (a_stream {t = t} h) = subst (λ (l : TypeExpr-F TypeExpr). LayerOf s l w) (sym (out-Stream t)) (_, h, refl)

pub layer_of : (s : Setting) (e : TypeExpr) (l : TypeExpr-F TypeExpr) (w : ValueTree) → out-TypeExpr e ≡ l → IsValue s e w → LayerOf s l w
layer_of s e l w is h = subst (λ (k : TypeExpr-F TypeExpr). LayerOf s k w) is (value_of s e w h)

-- what a type with a name is, by how it is defined
abbrev DefinedBy : Setting → TypeItem → TypeDef → Denoted → Type 0
DefinedBy s t (def.Alias e) k = ((id : Ident) × (e ≡ ty.Name id) × NamesType s (ident_text id) k) ⊎ ((v : ValueTree) × ((id : Ident) → e ≢ ty.Name id) × IsValue s e v × (k ≡ value_type v))
DefinedBy s t (def.Record fs) k = (vs : List ValueTree) × AreFieldsOf s fs.items vs × (k ≡ value_type (node (record_of (field_names fs.items)) (parts_of vs)))
DefinedBy s t (def.Variant of) k = (cs : List (Text × Bool)) × (vs : List ValueTree) × AreCasesOf s of.items cs vs × (k ≡ value_type (node (variant cs) (parts_of vs)))
DefinedBy s t (def.Flags ns) k = k ≡ value_type (node (flags (map ident_text ns.items)) no_parts)
DefinedBy s t (def.Enum ns) k = k ≡ value_type (node (enum (map ident_text ns.items)) no_parts)
DefinedBy s t (def.Resource ms) k = k ≡ resource_type (type_name s t)

defined_by : (s : Setting) (t : TypeItem) (k : Denoted) → IsDefined s t k → DefinedBy s t t.def k
defined_by s t k (another_name id is h) = subst (λ (d : TypeDef). DefinedBy s t d k) (sym is) (inl (id, refl, h))
defined_by s t k (alias {v = v} e is isnt h) = subst (λ (d : TypeDef). DefinedBy s t d k) (sym is) (inr (v, isnt, h, refl))
defined_by s t k (a_record {vs = vs} fs is h) = subst (λ (d : TypeDef). DefinedBy s t d k) (sym is) (vs, h, refl)
defined_by s t k (a_variant {vs = vs} {cs = cs} of is h) = subst (λ (d : TypeDef). DefinedBy s t d k) (sym is) (cs, vs, h, refl)
defined_by s t k (some_flags ns is) = subst (λ (d : TypeDef). DefinedBy s t d k) (sym is) refl
defined_by s t k (an_enum ns is) = subst (λ (d : TypeDef). DefinedBy s t d k) (sym is) refl
defined_by s t k (a_resource ms is) = subst (λ (d : TypeDef). DefinedBy s t d k) (sym is) refl

defined_as : (s : Setting) (t : TypeItem) (d : TypeDef) (k : Denoted) → t.def ≡ d → IsDefined s t k → DefinedBy s t d k
defined_as s t d k is h = subst (λ (e : TypeDef). DefinedBy s t e k) is (defined_by s t k h)

abbrev OptionalOf : Setting → Option (Box TypeExpr Global) → Option ValueTree → Type 0
OptionalOf s None y = y ≡ None
OptionalOf s (Some t) y = (v : ValueTree) × IsValue s t.value v × (y ≡ Some v)

optional_of : (s : Setting) (o : Option (Box TypeExpr Global)) (y : Option ValueTree) → IsOptional s o y → OptionalOf s o y
optional_of s _ _ nothing = refl
optional_of s _ _ (something h) = (_, h, refl)

abbrev ValuesOf : Setting → List TypeExpr → List ValueTree → Type 0
ValuesOf s [] ys = ys ≡ []
ValuesOf s (t ∷ ts) ys = (v : ValueTree) × (vs : List ValueTree) × IsValue s t v × AreValuesOf s ts vs × (ys ≡ v ∷ vs)

values_of : (s : Setting) (ts : List TypeExpr) (ys : List ValueTree) → AreValuesOf s ts ys → ValuesOf s ts ys
values_of s _ _ no_values = refl
values_of s _ _ (more_values h hs) = (_, _, h, hs, refl)

abbrev FieldsOf : Setting → List Field → List ValueTree → Type 0
FieldsOf s [] ys = ys ≡ []
FieldsOf s (f ∷ fs) ys = (v : ValueTree) × (vs : List ValueTree) × IsValue s f.ty v × AreFieldsOf s fs vs × (ys ≡ v ∷ vs)

fields_of : (s : Setting) (fs : List Field) (ys : List ValueTree) → AreFieldsOf s fs ys → FieldsOf s fs ys
fields_of s _ _ no_fields = refl
fields_of s _ _ (more_fields h hs) = (_, _, h, hs, refl)

record BareCase (s : Setting) (c : Case) (cs : List Case) (ns : List (Text × Bool)) (ys : List ValueTree) : Type 0 where
  is_names : List (Text × Bool)
  is_trees : List ValueTree
  has : c.ty ≡ None
  rest : AreCasesOf s cs is_names is_trees
  names : ns ≡ (ident_text c.name, false) ∷ is_names
  trees : ys ≡ is_trees

record TypedCase (s : Setting) (c : Case) (cs : List Case) (ns : List (Text × Bool)) (ys : List ValueTree) : Type 0 where
  type_of : TypeExpr
  tree : ValueTree
  is_names : List (Text × Bool)
  is_trees : List ValueTree
  has : c.ty ≡ Some type_of
  value : IsValue s type_of tree
  rest : AreCasesOf s cs is_names is_trees
  names : ns ≡ (ident_text c.name, true) ∷ is_names
  trees : ys ≡ tree ∷ is_trees

abbrev CasesOf : Setting → List Case → List (Text × Bool) → List ValueTree → Type 0
CasesOf s [] ns ys = (ns ≡ []) × (ys ≡ [])
CasesOf s (c ∷ cs) ns ys = BareCase s c cs ns ys ⊎ TypedCase s c cs ns ys

cases_of : (s : Setting) (cs : List Case) (ns : List (Text × Bool)) (ys : List ValueTree) → AreCasesOf s cs ns ys → CasesOf s cs ns ys
cases_of s _ _ _ no_cases = (refl, refl)
cases_of s _ _ _ (bare {ns = ns} {vs = vs} n hs) = inl (record { is_names = ns; is_trees = vs; has = n; rest = hs; names = refl; trees = refl })
cases_of s _ _ _ (with_type {ns = ns} {v = v} {vs = vs} t is h hs) = inr (record { type_of = t; tree = v; is_names = ns; is_trees = vs; has = is; value = h; rest = hs; names = refl; trees = refl })

abbrev ReturnedOf : Setting → Option TypeExpr → Option ValueTree → Type 0
ReturnedOf s None y = y ≡ None
ReturnedOf s (Some t) y = (v : ValueTree) × IsValue s t v × (y ≡ Some v)

returned_of : (s : Setting) (o : Option TypeExpr) (y : Option ValueTree) → IsReturned s o y → ReturnedOf s o y
returned_of s _ _ returns_nothing = refl
returned_of s _ _ (returns {v = v} h) = (v, h, refl)

module _ (Ok : Setting → Type 0) (once : (s : Setting) → Ok s → GivesOnce s)
    (leads : (s : Setting) → Ok s → (n : Text) (u : UseItem) (r : Rename) → GivesUse s n u r → (v x : ScopeSyntax) (i j : Text) (d e : InterfaceDecl) → PathLeadsTo s.sources s.scope u.path v i → HasInterface s.sources v i d
    → PathLeadsTo s.sources s.scope u.path x j → HasInterface s.sources x j e → (v ≡ x) × (d ≡ e))
    (closed : (s : Setting) → Ok s → (n : Text) (u : UseItem) (r : Rename) → GivesUse s n u r → (v : ScopeSyntax) (i : Text) (d : InterfaceDecl) → PathLeadsTo s.sources s.scope u.path v i → HasInterface s.sources v i d → Ok (interface_setting s.sources v d.items.items)) where
  mutual
    pub one_name : (s : Setting) (n : Text) (m k : Denoted) → Ok s → NamesType s n m → NamesType s n k → m ≡ k
    one_name s n m k ok (defined t t_in t_on t_is h) (defined x x_in x_on x_is g) =
        let same = (once s ok).types n x t (record { among = x_in; there = x_on; named = x_is }) (record { among = t_in; there = t_on; named = t_is }) in
        one_defined s t m k ok h (subst (λ (y : TypeItem). IsDefined s y k) same g)
    one_name s n m k ok (defined t t_in t_on t_is h) (used w q e w_in w_on q_in q_is to has g) = absurd ((once s ok).apart n t w q (record { among = t_in; there = t_on; named = t_is }) (record { among = w_in; there = w_on; within = q_in; named = q_is }))
    one_name s n m k ok (used u r d u_in u_on r_in r_is to has h) (defined x x_in x_on x_is g) = absurd ((once s ok).apart n x u r (record { among = x_in; there = x_on; named = x_is }) (record { among = u_in; there = u_on; within = r_in; named = r_is }))
    one_name s n m k ok (used {i = i} {v = v} u r d u_in u_on r_in r_is to has h) (used {i = j} {v = x} w q e w_in w_on q_in q_is also have g) =
        let gives : GivesUse s n u r = record { among = u_in; there = u_on; within = r_in; named = r_is } in
        let gave : GivesUse s n w q = record { among = w_in; there = w_on; within = q_in; named = q_is } in
        let same = (once s ok).uses n w u q r gave gives in
        let one = leads s ok n u r gives v x i j d e to has (subst (λ (y : UseItem). PathLeadsTo s.sources s.scope y.path x j) same.0 also) have in
        let there : NamesType (interface_setting s.sources v d.items.items) (ident_text r.name) k = subst (λ (p : ScopeSyntax × InterfaceDecl × Rename). NamesType (interface_setting s.sources p.0 p.1.items.items) (ident_text p.2.name) k) (λ a. (sym one.0 a, sym one.1 a, same.1 a)) g in
        one_name (interface_setting s.sources v d.items.items) (ident_text r.name) m k (closed s ok n u r gives v i d to has) h there

    one_defined : (s : Setting) (t : TypeItem) (m k : Denoted) → Ok s → IsDefined s t m → IsDefined s t k → m ≡ k
    one_defined s t m k ok (another_name id is h) g = elim (defined_as s t (def.Alias (ty.Name id)) k is g) [
      | inl p ↦ let same : p.0 ≡ id = let both = p.1 in cc in one_name s (ident_text id) m k ok h (subst (λ (y : Ident). NamesType s (ident_text y) k) same p.2)
      | inr p ↦ absurd (p.1 id refl)
    ]
    one_defined s t _ k ok (alias {v = v} e is isnt h) g = elim (defined_as s t (def.Alias e) k is g) [ inl p ↦ absurd (isnt p.0 p.1) | inr p ↦ ap value_type (one_value s e v p.0 ok h p.2) ∙ sym p.3 ]
    one_defined s t _ k ok (a_record {vs = vs} fs is h) g = let p = defined_as s t (def.Record fs) k is g in ap (λ (xs : List ValueTree). value_type (node (record_of (field_names fs.items)) (parts_of xs))) (one_fields s fs.items vs p.0 ok h p.1) ∙ sym p.2
    one_defined s t _ k ok (a_variant {vs = vs} {cs = cs} of is h) g =
        let p = defined_as s t (def.Variant of) k is g in
        let both = one_cases s of.items cs p.0 vs p.1 ok h p.2 in
        (λ z. value_type (node (variant (both.0 z)) (parts_of (both.1 z)))) ∙ sym p.3
    one_defined s t _ k ok (some_flags ns is) g = sym (defined_as s t (def.Flags ns) k is g)
    one_defined s t _ k ok (an_enum ns is) g = sym (defined_as s t (def.Enum ns) k is g)
    one_defined s t _ k ok (a_resource ms is) g = sym (defined_as s t (def.Resource ms) k is g)

    one_value : (s : Setting) (e : TypeExpr) (v w : ValueTree) → Ok s → IsValue s e v → IsValue s e w → v ≡ w
    one_value s _ _ w ok (a_primitive {p = p} {span = span}) g = sym (layer_of s (ty.Primitive p span) (TypeExpr-F.Primitive p span) w (out-Primitive p span) g)
    one_value s _ v w ok (name {id = id} h) g = elim (layer_of s (ty.Name id) (TypeExpr-F.Name id) w (out-Name id) g) [ inl k ↦ value_type-same v w (one_name s (ident_text id) (value_type v) (value_type w) ok h k) | inr k ↦ no_resource v k.0 (one_name s (ident_text id) (value_type v) (resource_type k.0) ok h k.1) ]
    one_value s _ _ w ok (handle {id = id} {r = r} h) g = elim (layer_of s (ty.Name id) (TypeExpr-F.Name id) w (out-Name id) g) [
      | inl k ↦ no_resource w r (sym (one_name s (ident_text id) (resource_type r) (value_type w) ok h k))
      | inr k ↦ ap (λ (x : Text). node (own x) no_parts) (resource_type-same r k.0 (one_name s (ident_text id) (resource_type r) (resource_type k.0) ok h k.1)) ∙ sym k.2
    ]
    one_value s _ _ w ok (owned {id = id} {r = r} h) g = let k = layer_of s (ty.Own id) (TypeExpr-F.Own id) w (out-Own id) g in ap (λ (x : Text). node (own x) no_parts) (resource_type-same r k.0 (one_name s (ident_text id) (resource_type r) (resource_type k.0) ok h k.1)) ∙ sym k.2
    one_value s _ _ w ok (borrowed {id = id} {r = r} h) g = let k = layer_of s (ty.Borrow id) (TypeExpr-F.Borrow id) w (out-Borrow id) g in ap (λ (x : Text). node (borrow x) no_parts) (resource_type-same r k.0 (one_name s (ident_text id) (resource_type r) (resource_type k.0) ok h k.1)) ∙ sym k.2
    one_value s _ _ w ok (a_list {t = t} {v = v} h) g = let k = layer_of s (ty.List t) (TypeExpr-F.List t) w (out-List t) g in ap (λ (x : ValueTree). node list (part x no_parts)) (one_value s t.value v k.0 ok h k.1) ∙ sym k.2
    one_value s _ _ w ok (fixed_list {t = t} {n = n} {span = span} {v = v} h) g = let k = layer_of s (ty.FixedList t n span) (TypeExpr-F.FixedList t n span) w (out-FixedList t n span) g in ap (λ (x : ValueTree). node (fixed_size_list n) (part x no_parts)) (one_value s t.value v k.0 ok h k.1) ∙ sym k.2
    one_value s _ _ w ok (an_option {t = t} {v = v} h) g = let k = layer_of s (ty.Option t) (TypeExpr-F.Option t) w (out-Option t) g in ap (λ (x : ValueTree). node option (part x no_parts)) (one_value s t.value v k.0 ok h k.1) ∙ sym k.2
    one_value s _ _ w ok (a_result {ok = a} {err = b} {x = x} {y = y} h i) g =
        let k = layer_of s (ty.Result a b) (TypeExpr-F.Result a b) w (out-Result a b) g in
        let p = one_optional s a x k.0 ok h k.2 in
        let q = one_optional s b y k.1 ok i k.3 in
        (λ z. node (result_of (is_some (p z)) (is_some (q z))) (parts_of (option_to_list (p z) ++ option_to_list (q z)))) ∙ sym k.4
    one_value s _ _ w ok (a_tuple ts {span = span} {vs = vs} h) g = let k = layer_of s (ty.Tuple ts span) (TypeExpr-F.Tuple ts span) w (out-Tuple ts span) g in ap (λ (xs : List ValueTree). node tuple (parts_of xs)) (one_values s ts.items vs k.0 ok h k.1) ∙ sym k.2
    one_value s _ _ w ok (a_map {k = a} {t = t} {span = span} {x = x} {v = v} h i) g =
        let k = layer_of s (ty.Map a t span) (TypeExpr-F.Map a t span) w (out-Map a t span) g in
        let p = one_value s a.value x k.0 ok h k.2 in
        let q = one_value s t.value v k.1 ok i k.3 in
        (λ z. node map_of (part (p z) (part (q z) no_parts))) ∙ sym k.4
    one_value s _ _ w ok (a_future {t = t} {x = x} h) g = let k = layer_of s (ty.Future t) (TypeExpr-F.Future t) w (out-Future t) g in ap (λ (y : Option ValueTree). node (future (is_some y)) (parts_of (option_to_list y))) (one_optional s t x k.0 ok h k.1) ∙ sym k.2
    one_value s _ _ w ok (a_stream {t = t} {x = x} h) g = let k = layer_of s (ty.Stream t) (TypeExpr-F.Stream t) w (out-Stream t) g in ap (λ (y : Option ValueTree). node (stream (is_some y)) (parts_of (option_to_list y))) (one_optional s t x k.0 ok h k.1) ∙ sym k.2

    one_optional : (s : Setting) (o : Option (Box TypeExpr Global)) (x y : Option ValueTree) → Ok s → IsOptional s o x → IsOptional s o y → x ≡ y
    one_optional s _ _ y ok nothing g = sym (optional_of s None y g)
    one_optional s _ _ y ok (something {t = t} {v = v} h) g = let k = optional_of s (Some t) y g in ap (λ (x : ValueTree). Some x) (one_value s t.value v k.0 ok h k.1) ∙ sym k.2

    one_values : (s : Setting) (ts : List TypeExpr) (xs ys : List ValueTree) → Ok s → AreValuesOf s ts xs → AreValuesOf s ts ys → xs ≡ ys
    one_values s _ _ ys ok no_values g = sym (values_of s [] ys g)
    one_values s _ _ ys ok (more_values {t = t} {ts = ts} {v = v} {vs = vs} h hs) g =
        let k = values_of s (t ∷ ts) ys g in
        let x = one_value s t v k.0 ok h k.2 in
        let xs = one_values s ts vs k.1 ok hs k.3 in
        (λ z. x z ∷ xs z) ∙ sym k.4

    one_fields : (s : Setting) (fs : List Field) (xs ys : List ValueTree) → Ok s → AreFieldsOf s fs xs → AreFieldsOf s fs ys → xs ≡ ys
    one_fields s _ _ ys ok no_fields g = sym (fields_of s [] ys g)
    one_fields s _ _ ys ok (more_fields {f = f} {fs = fs} {v = v} {vs = vs} h hs) g =
        let k = fields_of s (f ∷ fs) ys g in
        let x = one_value s f.ty v k.0 ok h k.2 in
        let xs = one_fields s fs vs k.1 ok hs k.3 in
        (λ z. x z ∷ xs z) ∙ sym k.4

    one_cases : (s : Setting) (cs : List Case) (ns ms : List (Text × Bool)) (xs ys : List ValueTree) → Ok s → AreCasesOf s cs ns xs → AreCasesOf s cs ms ys → (ns ≡ ms) × (xs ≡ ys)
    one_cases s _ _ ms _ ys ok no_cases g = let k = cases_of s [] ms ys g in (sym k.0, sym k.1)
    one_cases s _ _ ms _ ys ok (bare {c = c} {cs = cs} {ns = ns} {vs = vs} n hs) g = elim (cases_of s (c ∷ cs) ms ys g) [
      | inl k ↦ let rest = one_cases s cs ns k.is_names vs k.is_trees ok hs k.rest in ((λ z. (ident_text c.name, false) ∷ rest.0 z) ∙ sym k.names, rest.1 ∙ sym k.trees)
      | inr k ↦ let both = sym n ∙ k.has in absurd (cc)
    ]
    one_cases s _ _ ms _ ys ok (with_type {c = c} {cs = cs} {ns = ns} {v = v} {vs = vs} t is h hs) g = elim (cases_of s (c ∷ cs) ms ys g) [
      | inl k ↦ let both = sym k.has ∙ is in absurd (cc)
      | inr k ↦
          let same : k.type_of ≡ t = same_Some k.type_of t (sym k.has ∙ is) in
          let x = one_value s t v k.tree ok h (subst (λ (y : TypeExpr). IsValue s y k.tree) same k.value) in
          let rest = one_cases s cs ns k.is_names vs k.is_trees ok hs k.rest in
          ((λ z. (ident_text c.name, true) ∷ rest.0 z) ∙ sym k.names, (λ z. x z ∷ rest.1 z) ∙ sym k.trees)
    ]

  one_returned : (s : Setting) (o : Option TypeExpr) (x y : Option ValueTree) → Ok s → IsReturned s o x → IsReturned s o y → x ≡ y
  one_returned s _ _ y ok returns_nothing g = sym (returned_of s None y g)
  one_returned s _ _ y ok (returns {t = t} {v = v} h) g = let k = returned_of s (Some t) y g in ap (λ (x : ValueTree). Some x) (one_value s t v k.0 ok h k.1) ∙ sym k.2

  -- a signature denotes one function
  pub one_signature : (s : Setting) (sig : Signature) (before : List (Text × ValueTree)) (f : Option ValueTree → Option ValueTree) (x y : FuncTree) → Ok s → IsFuncOf s sig before f x → IsFuncOf s sig before f y → x ≡ y
  one_signature s sig before f x y ok h g =
      let params = one_fields s sig.params.items h.params g.params ok h.are_params g.are_params in
      let returned = one_returned s sig.returns h.returns g.returns ok h.are_returns g.are_returns in
      let named = h.named ∙ ap (λ (ps : List ValueTree). before ++ with_names (field_names sig.params.items) ps) params ∙ sym g.named in
      let given = h.given ∙ ap f returned ∙ sym g.given in
      let async = h.is_async ∙ sym g.is_async in
      λ z. record { params = named z; «result» = given z; is_async = async z }

-- an interface's setting
record IsInside (of : WitSources) (s : Setting) : Type 0 where
  scope : ScopeSyntax
  name : Text
  decl : InterfaceDecl
  has : HasInterface of scope name decl
  is : interface_setting of scope decl.items.items ≡ s

module _ (of : WitSources) (paths : IsUnambiguous of) (once : AllGiveOnce of) where
  inside_once : (s : Setting) → IsInside of s → GivesOnce s
  inside_once s h = subst GivesOnce h.is (once h.scope h.name h.decl h.has)

  inside_leads : (s : Setting) → IsInside of s → (n : Text) (u : UseItem) (r : Rename) → GivesUse s n u r → (v x : ScopeSyntax) (i j : Text) (d e : InterfaceDecl) → PathLeadsTo s.sources s.scope u.path v i → HasInterface s.sources v i d
      → PathLeadsTo s.sources s.scope u.path x j → HasInterface s.sources x j e → (v ≡ x) × (d ≡ e)
  inside_leads s h n u r gives v x i j d e = subst (λ (k : Setting). PathLeadsTo k.sources k.scope u.path v i → HasInterface k.sources v i d → PathLeadsTo k.sources k.scope u.path x j → HasInterface k.sources x j e → (v ≡ x) × (d ≡ e)) h.is
      (λ to has also have.
      let one = paths.interfaces h.scope u.path (record { scope = v; decl = d }) (record { scope = x; decl = e }) h.has.scope (record { name = i; leads = to; has = has }) (record { name = j; leads = also; has = have }) in
      (ap (λ (p : PlacedInterface). p.scope) one, ap (λ (p : PlacedInterface). p.decl) one))

  inside_closed : (s : Setting) → IsInside of s → (n : Text) (u : UseItem) (r : Rename) → GivesUse s n u r → (v : ScopeSyntax) (i : Text) (d : InterfaceDecl) → PathLeadsTo s.sources s.scope u.path v i → HasInterface s.sources v i d
      → IsInside of (interface_setting s.sources v d.items.items)
  inside_closed s h n u r gives v i d to has =
      let sources : s.sources ≡ of = ap (λ (k : Setting). k.sources) (sym h.is) in
      record { scope = v; name = i; decl = d; has = subst (λ (o : WitSources). HasInterface o v i d) sources has; is = ap (λ (o : WitSources). interface_setting o v d.items.items) (sym sources) }

  -- a signature in an interface denotes one function
  pub one_func : (w : ScopeSyntax) (i : Text) (d : InterfaceDecl) → HasInterface of w i d → (sig : Signature) (before : List (Text × ValueTree)) (f : Option ValueTree → Option ValueTree) (x y : FuncTree)
      → IsFuncOf (interface_setting of w d.items.items) sig before f x → IsFuncOf (interface_setting of w d.items.items) sig before f y → x ≡ y
  one_func w i d has sig before f x y h g = one_signature (IsInside of) inside_once inside_leads inside_closed (interface_setting of w d.items.items) sig before f x y (record { scope = w; name = i; decl = d; has = has; is = refl }) h g

  -- where no path is ambiguous, and each interface gives each name of a type once, names stand for one thing
  pub one_meaning : HaveOneMeaning of
  one_meaning w i d has n m k h g = one_name (IsInside of) inside_once inside_leads inside_closed (interface_setting of w d.items.items) n m k (record { scope = w; name = i; decl = d; has = has; is = refl }) h g

-- another setting of the same files, which gives each name of a type once
module _ (of : WitSources) (paths : IsUnambiguous of) (once : AllGiveOnce of) (w : ScopeSyntax) (us : List UseItem) (ts : List TypeItem) (fs : List FuncItem) (rss : List (List Rename)) where
  abbrev pub own_setting : Setting
  own_setting = record { sources = of; scope = w; uses = us; types = ts; funcs = fs; renames = rss }

  module _ (is_scope : IsScopeOf of w) (gives : GivesOnce own_setting) where
    abbrev IsWithin : Setting → Type 0
    IsWithin s = IsInside of s ⊎ (own_setting ≡ s)

    within_once : (s : Setting) → IsWithin s → GivesOnce s
    within_once s (inl h) = inside_once of paths once s h
    within_once s (inr is) = subst GivesOnce is gives

    within_leads : (s : Setting) → IsWithin s → (n : Text) (u : UseItem) (r : Rename) → GivesUse s n u r → (v x : ScopeSyntax) (i j : Text) (d e : InterfaceDecl) → PathLeadsTo s.sources s.scope u.path v i → HasInterface s.sources v i d
        → PathLeadsTo s.sources s.scope u.path x j → HasInterface s.sources x j e → (v ≡ x) × (d ≡ e)
    within_leads s (inl h) n u r g v x i j d e = inside_leads of paths once s h n u r g v x i j d e
    within_leads s (inr is) n u r g v x i j d e = subst (λ (k : Setting). PathLeadsTo k.sources k.scope u.path v i → HasInterface k.sources v i d → PathLeadsTo k.sources k.scope u.path x j → HasInterface k.sources x j e → (v ≡ x) × (d ≡ e)) is
        (λ to has also have.
        let one = paths.interfaces w u.path (record { scope = v; decl = d }) (record { scope = x; decl = e }) is_scope (record { name = i; leads = to; has = has }) (record { name = j; leads = also; has = have }) in
        (ap (λ (p : PlacedInterface). p.scope) one, ap (λ (p : PlacedInterface). p.decl) one))

    within_closed : (s : Setting) → IsWithin s → (n : Text) (u : UseItem) (r : Rename) → GivesUse s n u r → (v : ScopeSyntax) (i : Text) (d : InterfaceDecl) → PathLeadsTo s.sources s.scope u.path v i → HasInterface s.sources v i d
        → IsWithin (interface_setting s.sources v d.items.items)
    within_closed s (inl h) n u r g v i d to has = inl (inside_closed of paths once s h n u r g v i d to has)
    within_closed s (inr is) n u r g v i d to has = inl (record { scope = v; name = i; decl = d; has = subst (λ (k : Setting). HasInterface k.sources v i d) (sym is) has; is = ap (λ (k : Setting). interface_setting k.sources v d.items.items) is })

    pub one_own_name : (n : Text) (m k : Denoted) → NamesType own_setting n m → NamesType own_setting n k → m ≡ k
    one_own_name n m k h g = one_name IsWithin within_once within_leads within_closed own_setting n m k (inr refl) h g

    pub one_own_func : (sig : Signature) (before : List (Text × ValueTree)) (f : Option ValueTree → Option ValueTree) (x y : FuncTree) → IsFuncOf own_setting sig before f x → IsFuncOf own_setting sig before f y → x ≡ y
    one_own_func sig before f x y h g = one_signature IsWithin within_once within_leads within_closed own_setting sig before f x y (inr refl) h g
