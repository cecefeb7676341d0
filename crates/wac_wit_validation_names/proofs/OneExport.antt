-- What an interface exports under a name is one thing, where it gives each name once.
use Rattle.std.proofs.Common.{◌≡◌, ◌∙◌, ◌⊎◌, inl, inr, ℕ, ◌+◌, List, [], Contains, Option, Some, Vec, Global, arith, refl, sym, ap, subst}
use Rattle.std.specs.Prelude.{slice_get}
use Rattle.std.proofs.lemmas.Option.{same_Some}
use Rattle.wac_model.specs.ItemTree.{ItemTree, func, item, leaf}
use Rattle.wac_model.specs.Text.{Text}
use Rattle.wac_model.specs.ValueTree.{FuncTree, ValueTree}
use Rattle.wac_wit_syntax.specs.declared.tree.FuncItem.{FuncItem}
use Rattle.wac_wit_syntax.specs.declared.tree.InterfaceDecl.{InterfaceDecl}
use Rattle.wac_wit_syntax.specs.declared.tree.InterfaceItem.{InterfaceItem}
use Rattle.wac_wit_syntax.specs.declared.tree.InterfaceItem.TheVariants as inside
use Rattle.wac_wit_syntax.specs.declared.tree.Method.{Method}
use Rattle.wac_wit_syntax.specs.declared.tree.Signature.{Signature}
use Rattle.wac_wit_syntax.specs.declared.tree.TypeDef.TheVariants as def
use Rattle.wac_wit_syntax.specs.declared.tree.TypeItem.{TypeItem}
use Rattle.wac_wit_syntax.specs.declared.tree.UseItem.{UseItem}
use Rattle.wac_wit_scopes.specs.WitSources.{HasInterface, IsEnabled, ScopeSyntax, WitSources, ident_text}
use Rattle.wac_wit_validation_types.proofs.OneMeaning.{one_func, one_meaning}
use Rattle.wac_wit_validation_names.proofs.OnceFacts.{func_place, method_place, type_place, use_place}
use Rattle.wac_wit_validation_types.specs.Denoted.{Denoted, NamesType, Setting, defined, interface_setting, used}
use Rattle.wac_wit_validation_types.specs.Functions.{HasMethod, IsFuncOf, IsMethodOf, method_name, of_resource}
use Rattle.wac_wit_validation_types.specs.Interfaces.{HasExportOf, a_func, a_method, a_type, named_tree}
use Rattle.wac_wit_validation_names.specs.Once.{InsideGivesOnce}
use Rattle.wac_wit_validation_types.specs.OneMeaning.{AllGiveOnce, ExportsStandForOne}
use Rattle.wac_wit_validation_types.specs.Placed.{IsUnambiguous}
use Rattle.wac_wit_validation_names.specs.declared.given.NamePlace.{NamePlace}

-- what is exported under a name, by its sort
record TypeExport (s : Setting) (n : Text) (x : ItemTree) : Type 0 where
  denoted : Denoted
  names : NamesType s n denoted
  tree : x ≡ named_tree denoted

record FuncExport (s : Setting) (n : Text) (x : ItemTree) : Type 0 where
  written : FuncItem
  among : Contains s.funcs written
  there : IsEnabled s.sources written.gates
  named : ident_text written.name ≡ n
  type_of : FuncTree
  is : IsFuncOf s written.signature [] (λ r. r) type_of
  tree : x ≡ leaf item (func type_of)

record MethodOf (s : Setting) (n : Text) (f : FuncTree) : Type 0 where
  resource : TypeItem
  methods : Vec Method Global
  method : Method
  among : Contains s.types resource
  there : IsEnabled s.sources resource.gates
  is_resource : resource.def ≡ def.Resource methods
  within : Contains methods.items method
  on : IsEnabled s.sources method.gates
  named : method_name method.kind (ident_text resource.name) (ident_text method.name) ≡ n
  is : IsMethodOf s method (ident_text resource.name) f

record MethodExport (s : Setting) (n : Text) (x : ItemTree) : Type 0 where
  type_of : FuncTree
  of : MethodOf s n type_of
  tree : x ≡ leaf item (func type_of)

method_of : (all : WitSources) (w : ScopeSyntax) (is : List InterfaceItem) (n : Text) (f : FuncTree) → HasMethod (interface_setting all w is) n f → MethodOf (interface_setting all w is) n f
method_of all w is _ f (of_resource t ms m t_in t_on is_resource m_in m_on h) = record { resource = t; methods = ms; method = m; among = t_in; there = t_on; is_resource = is_resource; within = m_in; on = m_on; named = refl; is = h }

export_by : (all : WitSources) (w : ScopeSyntax) (is : List InterfaceItem) (n : Text) (x : ItemTree) → HasExportOf (interface_setting all w is) n x
    → TypeExport (interface_setting all w is) n x ⊎ (FuncExport (interface_setting all w is) n x ⊎ MethodExport (interface_setting all w is) n x)
export_by all w is _ _ (a_type {m = m} h) = inl (record { denoted = m; names = h; tree = refl })
export_by all w is _ _ (a_func {g = g} f among there h) = inr (inl (record { written = f; among = among; there = there; named = refl; type_of = g; is = h; tree = refl }))
export_by all w is n _ (a_method {g = g} h) = inr (inr (record { type_of = g; of = method_of all w is n g h; tree = refl }))

module _ (of : WitSources) (w : ScopeSyntax) (is : List InterfaceItem) (all : InsideGivesOnce of is) where
  abbrev own : Setting
  own = interface_setting of w is

  -- the place that is noted for a name, and what stands there
  record PlaceOf (n : Text) (i j : ℕ) (e : InterfaceItem) : Type 0 where
    noted : all.given n ≡ Some (record { layer = 0; item = i; part = j })
    at : slice_get is i ≡ Some e

  same_item : (n : Text) (i j k l : ℕ) (e f : InterfaceItem) → PlaceOf n i j e → PlaceOf n k l f → e ≡ f
  same_item n i j k l e f p q = same_Some e f (sym p.at ∙ ap (λ (o : NamePlace). slice_get is o.item) (same_Some _ _ (sym p.noted ∙ q.noted)) ∙ q.at)

  same_index : (n : Text) (i j k l : ℕ) (e f : InterfaceItem) → PlaceOf n i j e → PlaceOf n k l f → j ≡ l
  same_index n i j k l e f p q = ap (λ (o : NamePlace). o.part) (same_Some _ _ (sym p.noted ∙ q.noted))

  data TypePlace (n : Text) : Type 0 where
    by_type : (t : TypeItem) (i : ℕ) → PlaceOf n i 0 (inside.Type t) → TypePlace n
    by_use : (u : UseItem) (i j : ℕ) → PlaceOf n i j (inside.Use u) → TypePlace n

  place_of_type : (n : Text) (m : Denoted) → NamesType own n m → TypePlace n
  place_of_type n m (defined t among there named h) = let p = type_place of w is all n t (record { among = among; there = there; named = named }) in by_type t p.0 (record { noted = p.2; at = p.1 })
  place_of_type n m (used u r d among there within named leads has h) = let p = use_place of w is all n u r (record { among = among; there = there; within = within; named = named }) in by_use u p.0 p.2 (record { noted = p.4; at = p.1 })

  place_of_func : (n : Text) (x : ItemTree) (f : FuncExport own n x) → (i : ℕ) × PlaceOf n i 0 (inside.Func f.written)
  place_of_func n x f = let p = func_place of w is all f.written f.among f.there in (p.0, record { noted = subst (λ (k : Text). all.given k ≡ Some (record { layer = 0; item = p.0; part = 0 })) f.named p.2; at = p.1 })

  record MethodPlace (n : Text) (f : FuncTree) (m : MethodOf own n f) : Type 0 where
    scope : ℕ
    index : ℕ
    place : PlaceOf n scope (index + 1) (inside.Type m.resource)
    at : slice_get m.methods.items index ≡ Some m.method

  place_of_method : (n : Text) (f : FuncTree) (m : MethodOf own n f) → MethodPlace n f m
  place_of_method n f m =
      let p = method_place of w is all m.resource m.methods m.method m.among m.there m.is_resource m.within m.on in
      record { scope = p.0; index = p.2; place = record { noted = subst (λ (k : Text). all.given k ≡ Some (record { layer = 0; item = p.0; part = p.2 + 1 })) m.named p.4; at = p.1 }; at = p.3 }

  no_type_func : (n : Text) (x : ItemTree) (f : FuncExport own n x) → TypePlace n → ⊥
  no_type_func n x f (by_type t i p) = let q = place_of_func n x f in let e = same_item n i 0 q.0 0 (inside.Type t) (inside.Func f.written) p q.1 in absurd (cc)
  no_type_func n x f (by_use u i j p) = let q = place_of_func n x f in let e = same_item n i j q.0 0 (inside.Use u) (inside.Func f.written) p q.1 in absurd (cc)

  no_type_method : (n : Text) (f : FuncTree) (m : MethodOf own n f) → TypePlace n → ⊥
  no_type_method n f m (by_type t i p) = let q = place_of_method n f m in let e = same_index n i 0 q.scope (q.index + 1) (inside.Type t) (inside.Type m.resource) p q.place in absurd (omega (arith, e))
  no_type_method n f m (by_use u i j p) = let q = place_of_method n f m in let e = same_item n i j q.scope (q.index + 1) (inside.Use u) (inside.Type m.resource) p q.place in absurd (cc)

  no_func_method : (n : Text) (x : ItemTree) (f : FuncExport own n x) (g : FuncTree) (m : MethodOf own n g) → ⊥
  no_func_method n x f g m =
      let p = place_of_func n x f in
      let q = place_of_method n g m in
      let e = same_item n p.0 0 q.scope (q.index + 1) (inside.Func f.written) (inside.Type m.resource) p.1 q.place in absurd (cc)

  same_func : (f g : FuncItem) → inside.Func f ≡ inside.Func g → f ≡ g
  same_func f g e = cc

  same_type : (t x : TypeItem) → inside.Type t ≡ inside.Type x → t ≡ x
  same_type t x e = cc

  same_methods : (ms ns : Vec Method Global) → def.Resource ms ≡ def.Resource ns → ms ≡ ns
  same_methods ms ns e = cc

  same_index_before : (j l : ℕ) → j + 1 ≡ l + 1 → j ≡ l
  same_index_before j l e = omega (arith, e)

  module _ (meaning : (n : Text) (m k : Denoted) → NamesType own n m → NamesType own n k → m ≡ k)
      (one : (sig : Signature) (before : List (Text × ValueTree)) (f : Option ValueTree → Option ValueTree) (x y : FuncTree) → IsFuncOf own sig before f x → IsFuncOf own sig before f y → x ≡ y) where
    one_func_export : (n : Text) (x y : ItemTree) → FuncExport own n x → FuncExport own n y → x ≡ y
    one_func_export n x y f g =
        let p = place_of_func n x f in
        let q = place_of_func n y g in
        let same = same_func f.written g.written (same_item n p.0 0 q.0 0 (inside.Func f.written) (inside.Func g.written) p.1 q.1) in
        let is = subst (λ (h : FuncItem). IsFuncOf own h.signature [] (λ r. r) g.type_of) (sym same) g.is in
        f.tree ∙ ap (λ (h : FuncTree). leaf item (func h)) (one f.written.signature [] (λ r. r) f.type_of g.type_of f.is is) ∙ sym g.tree

    one_method : (n : Text) (f g : FuncTree) (m : MethodOf own n f) (k : MethodOf own n g) → f ≡ g
    one_method n f g m k =
        let p = place_of_method n f m in
        let q = place_of_method n g k in
        let same = same_type m.resource k.resource (same_item n p.scope (p.index + 1) q.scope (q.index + 1) (inside.Type m.resource) (inside.Type k.resource) p.place q.place) in
        let index = same_index_before p.index q.index (same_index n p.scope (p.index + 1) q.scope (q.index + 1) (inside.Type m.resource) (inside.Type k.resource) p.place q.place) in
        let methods = same_methods m.methods k.methods (sym m.is_resource ∙ ap (λ (t : TypeItem). t.def) same ∙ k.is_resource) in
        let method = same_Some m.method k.method (sym p.at ∙ (λ z. slice_get (methods z).items (index z)) ∙ q.at) in
        let is = subst (λ (b : TypeItem × Method). IsMethodOf own b.1 (ident_text b.0.name) g) (λ z. (sym same z, sym method z)) k.is in
        one _ _ _ f g m.is is

    pub one_export : (n : Text) (x y : ItemTree) → HasExportOf own n x → HasExportOf own n y → x ≡ y
    one_export n x y h g = elim (export_by of w is n x h) [
      | inl t ↦ elim (export_by of w is n y g) [
        | inl k ↦ t.tree ∙ ap named_tree (meaning n t.denoted k.denoted t.names k.names) ∙ sym k.tree
        | inr r ↦ elim r [ inl f ↦ absurd (no_type_func n y f (place_of_type n t.denoted t.names)) | inr m ↦ absurd (no_type_method n m.type_of m.of (place_of_type n t.denoted t.names)) ]
      ]
      | inr l ↦ elim l [
        | inl f ↦ elim (export_by of w is n y g) [
          | inl k ↦ absurd (no_type_func n x f (place_of_type n k.denoted k.names))
          | inr r ↦ elim r [ inl e ↦ one_func_export n x y f e | inr m ↦ absurd (no_func_method n x f m.type_of m.of) ]
        ]
        | inr m ↦ elim (export_by of w is n y g) [
          | inl k ↦ absurd (no_type_method n m.type_of m.of (place_of_type n k.denoted k.names))
          | inr r ↦ elim r [ inl e ↦ absurd (no_func_method n y e m.type_of m.of) | inr k ↦ m.tree ∙ ap (λ (f : FuncTree). leaf item (func f)) (one_method n m.type_of k.type_of m.of k.of) ∙ sym k.tree ]
        ]
      ]
    ]

-- where no path is ambiguous, and each interface gives each name once, exports stand for one thing
pub exports_stand_for_one : (of : WitSources) → IsUnambiguous of → AllGiveOnce of → ((w : ScopeSyntax) (n : Text) (d : InterfaceDecl) → HasInterface of w n d → InsideGivesOnce of d.items.items) → ExportsStandForOne of
exports_stand_for_one of paths once inside_of w i d has n x y = one_export of w d.items.items (inside_of w i d has) (one_meaning of paths once w i d has) (one_func of paths once w i d has) n x y
