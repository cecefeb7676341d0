-- Visits of one list after another.
use Rattle.std.proofs.Common.{◌≡◌, inl, inr, ℕ, suc, zero, ◌+◌, add-one, List, [], ◌∷◌, ◌++◌, drop, slice_get, length, map, arith, ◌≤◌, Option, Some, None, Result, Ok, Err, refl, ap, sym, ◌∙◌, subst}
use denote.Param.Always.{always_mut, mut_next}
use Rattle.std.specs.Fn.{Mut, Takes}
use Rattle.std.specs.Borrow.{Bor}
use Rattle.std.specs.List.{flat_map}
use Rattle.std.specs.Option.{option_map}
use Rattle.std.specs.declared.string.String.{String}
use Rattle.std.specs.declared.alloc.Global.{Global}
use Rattle.wac_model.specs.Text.{Text}
use Rattle.wac_component.specs.Id.{Id}
use Rattle.wac_component.specs.Collection.{Collection, FuncContent, InterfaceContent, WorldContent}
use Rattle.wac_component.specs.Key.{Key, func_entry, interface_entry, world_entry, defined_entry, resource_entry, module_entry, Stands, AllStand, Each, defined_key, func_key, interface_key, world_key, item_keys, named_keys, use_keys}
use Rattle.wac_component.specs.Sound.{IsSound}
use Rattle.wac_component.specs.Height.{height, keys_height}
use Rattle.wac_component.specs.Content.{named, types_of, case_types}
use Rattle.wac_component.specs.Visits.{own_id, optional_ids, func_ids, extern_ids, externs_ids, entry_ids, referred, CallsOn, VisitsEach, MayVisit}
use Rattle.wac_component.specs.declared.items.ValueType.{ValueType}
use Rattle.wac_component.specs.declared.items.ItemKind.{ItemKind}
use Rattle.wac_component.specs.declared.items.ItemKind.TheVariants.{«Type» as OfType, Func, Instance, Component, Module, Value}
use Rattle.wac_component.specs.declared.items.Type.TheVariants.{Resource as TypeResource, Func as TypeFunc, Value as TypeValue, Interface as TypeInterface, World as TypeWorld, Module as TypeModule}
use Rattle.wac_component.proofs.Lists.{slice_get-map}
use Rattle.wac_component.proofs.Keys.{Each-left, Each-right, Each-flat_map_at, largest-flat_map_at}
use Rattle.wac_component.proofs.Unfolded.{Agrees, unfolded-entry}

-- what is left of a list at a place: what is there, and what is left after it
flat_map-drop : {X : Type 0} (ids : X → List Id) (xs : List X) (i : ℕ) (x : X) → slice_get xs i ≡ Some x → flat_map ids (drop i xs) ≡ ids x ++ flat_map ids (drop (suc i) xs)
flat_map-drop ids [] i x at = absurd (cc)
flat_map-drop ids (y ∷ xs) zero x at = let same : y ≡ x = cc in rw same refl
flat_map-drop ids (y ∷ xs) (suc i) x at = flat_map-drop ids xs i x at

drop-past : {X : Type 0} (xs : List X) (i : ℕ) → length xs ≤ i → drop i xs ≡ []
drop-past [] zero l = refl
drop-past [] (suc i) l = refl
drop-past (x ∷ xs) zero l = absurd (omega arith)
drop-past (x ∷ xs) (suc i) l = drop-past xs i (omega arith)

module _ {F E : Type 0} (step : F → Id → Result (Unit {0}) E → F → Type 0) where
  pub VisitsEach-append : (xs ys : List Id) (f h g : F) (r : Result (Unit {0}) E) → VisitsEach step f xs (Ok tt) h → VisitsEach step h ys r g → VisitsEach step f (xs ++ ys) r g
  VisitsEach-append [] ys f h g r p q = subst (λ x. VisitsEach step x ys r g) p.1 q
  VisitsEach-append (x ∷ xs) ys f h g r (inl p) q = inl (p.0, p.1, VisitsEach-append xs ys p.0 h g r p.2 q)
  VisitsEach-append (x ∷ xs) ys f h g r (inr p) q = absurd (cc (p.2))

  pub VisitsEach-refused : (xs ys : List Id) (f g : F) (e : E) → VisitsEach step f xs (Err e) g → VisitsEach step f (xs ++ ys) (Err e) g
  VisitsEach-refused [] ys f g e p = absurd (cc (p.0))
  VisitsEach-refused (x ∷ xs) ys f g e (inl p) = inl (p.0, p.1, VisitsEach-refused xs ys p.0 g e p.2)
  VisitsEach-refused (x ∷ xs) ys f g e (inr p) = inr p

  -- once the rest is visited, all is
  abbrev pub Remains : F → List Id → F → List Id → Type 0
  Remains f all h rest = (r : Result (Unit {0}) E) (g : F) → VisitsEach step h rest r g → VisitsEach step f all r g

  -- the item at a place of a list is visited
  pub Remains-after : {X : Type 0} (ids : X → List Id) (xs : List X) (i : ℕ) (x : X) (f h k : F) → slice_get xs i ≡ Some x → Remains f (flat_map ids xs) h (flat_map ids (drop i xs)) → VisitsEach step h (ids x) (Ok tt) k → Remains f (flat_map ids xs) k (flat_map ids (drop (i + 1) xs))
  Remains-after ids xs i x f h k at p q = rw add-one (λ r g v. p r g (subst (λ ys. VisitsEach step h ys r g) (sym (flat_map-drop ids xs i x at)) (VisitsEach-append (ids x) (flat_map ids (drop (suc i) xs)) h k g r q v)))

  -- it refuses
  pub Remains-refused : {X : Type 0} (ids : X → List Id) (xs : List X) (i : ℕ) (x : X) (f h g : F) (e : E) → slice_get xs i ≡ Some x → Remains f (flat_map ids xs) h (flat_map ids (drop i xs)) → VisitsEach step h (ids x) (Err e) g → VisitsEach step f (flat_map ids xs) (Err e) g
  Remains-refused ids xs i x f h g e at p q = p (Err e) g (subst (λ ys. VisitsEach step h ys (Err e) g) (sym (flat_map-drop ids xs i x at)) (VisitsEach-refused (ids x) (flat_map ids (drop (suc i) xs)) h g e q))

  -- nothing is left
  pub Remains-done : {X : Type 0} (ids : X → List Id) (xs : List X) (i : ℕ) (f h : F) → length xs ≤ i → Remains f (flat_map ids xs) h (flat_map ids (drop i xs)) → VisitsEach step f (flat_map ids xs) (Ok tt) h
  Remains-done ids xs i f h l p = p (Ok tt) h (subst (λ ys. VisitsEach step h (flat_map ids ys) (Ok tt) h) (sym (drop-past xs i l)) (refl, refl))

module _ {F E : Type 0} (calls : Mut F (Bor Collection × (Id × Unit {0})) (Result (Unit {0}) E)) (c : Collection) where
  -- of one list after another, the visitor may be called on the first, and after it on the second
  pub MayVisit-front : (xs ys : List Id) (f : F) → MayVisit calls c f (xs ++ ys) → MayVisit calls c f xs
  MayVisit-front [] ys f m = tt
  MayVisit-front (x ∷ xs) ys f m = (m.0, λ g s. MayVisit-front xs ys g (m.1 g s))

  pub MayVisit-rest : (xs ys : List Id) (f g : F) → MayVisit calls c f (xs ++ ys) → VisitsEach (CallsOn calls c) f xs (Ok tt) g → MayVisit calls c g ys
  MayVisit-rest [] ys f g m v = subst (λ h. MayVisit calls c h ys) (sym v.1) m
  MayVisit-rest (x ∷ xs) ys f g m (inl v) = MayVisit-rest xs ys v.0 g (m.1 v.0 v.1) v.2
  MayVisit-rest (x ∷ xs) ys f g m (inr v) = absurd (cc (v.2))

  -- a visitor that may always be called may be called on these
  pub MayVisit-always : (xs : List Id) (f : F) → always_mut calls f → MayVisit calls c f xs
  MayVisit-always [] f h = tt
  MayVisit-always (x ∷ xs) f h = (λ shown shows. (h.at ((shown, (x, tt)) ∷ [])).0, λ g s. MayVisit-always xs g (mut_next calls f (s.shown, (x, tt)) (Ok tt) g g s.called refl h))

  -- one that may be called on each id that stands may be called on these, if they stand
  pub MayVisit-standing : ((f : F) (shown : Bor Collection) (id : Id) → Stands shown.now (defined_key id) → Takes calls f (shown, (id, tt))) → (xs : List Id) (f : F) → AllStand c (map defined_key xs) → MayVisit calls c f xs
  MayVisit-standing takes [] f st = tt
  MayVisit-standing takes (x ∷ xs) f st = (λ shown shows. takes f shown x (subst (λ d. Stands d (defined_key x)) (sym shows) st.0), λ g s. MayVisit-standing takes xs g st.1)

  -- at a place of a list: on what is there, and after it on what is left
  module _ {X : Type 0} (ids : X → List Id) (xs : List X) (i : ℕ) (x : X) (at : slice_get xs i ≡ Some x) where
    pub MayVisit-here : (f : F) → MayVisit calls c f (flat_map ids (drop i xs)) → MayVisit calls c f (ids x)
    MayVisit-here f m = MayVisit-front (ids x) (flat_map ids (drop (suc i) xs)) f (subst (λ ys. MayVisit calls c f ys) (flat_map-drop ids xs i x at) m)

    pub MayVisit-after : (f g : F) → MayVisit calls c f (flat_map ids (drop i xs)) → VisitsEach (CallsOn calls c) f (ids x) (Ok tt) g → MayVisit calls c g (flat_map ids (drop (i + 1) xs))
    MayVisit-after f g m v = rw add-one (MayVisit-rest (ids x) (flat_map ids (drop (suc i) xs)) f g (subst (λ ys. MayVisit calls c f ys) (flat_map-drop ids xs i x at) m) v)

-- by the values of a map
pub flat_map-named : {V A : Type 0} (f : V → List A) (es : List (String Global × V)) → flat_map (λ (e : Text × V). f e.1) (named (λ v. v) es) ≡ flat_map f (types_of es)
flat_map-named f [] = refl
flat_map-named f (e ∷ es) = ap (λ ks. f e.1 ++ ks) (flat_map-named f es)

append-nil : (xs : List Id) → (xs ++ []) ≡ xs
append-nil [] = refl
append-nil (x ∷ xs) = ap (λ ys. x ∷ ys) (append-nil xs)

append-assoc : (xs ys zs : List Id) → ((xs ++ ys) ++ zs) ≡ (xs ++ (ys ++ zs))
append-assoc [] ys zs = refl
append-assoc (x ∷ xs) ys zs = ap (λ ts. x ∷ ts) (append-assoc xs ys zs)

pub flat_map-cases : (es : List (String Global × Option ValueType)) → flat_map own_id (case_types es) ≡ flat_map optional_ids (types_of es)
flat_map-cases [] = refl
flat_map-cases ((k, None) ∷ es) = flat_map-cases es
flat_map-cases ((k, Some v) ∷ es) = ap (λ ks. own_id v ++ ks) (flat_map-cases es)

-- what an import or an export refers to follows from what the ids in it do
extern_ids-agree : (P : Key → Type 0) (f g : Key → List Id) → ((k : Key) → P k → f k ≡ g k) → (i : ItemKind) → Each P (item_keys i) → extern_ids f i ≡ extern_ids g i
extern_ids-agree P f g same (OfType (TypeResource r)) h = refl
extern_ids-agree P f g same (OfType (TypeFunc p)) h = same (func_key p) h.0
extern_ids-agree P f g same (OfType (TypeValue v)) h = refl
extern_ids-agree P f g same (OfType (TypeInterface p)) h = same (interface_key p) h.0
extern_ids-agree P f g same (OfType (TypeWorld p)) h = same (world_key p) h.0
extern_ids-agree P f g same (OfType (TypeModule p)) h = refl
extern_ids-agree P f g same (Func p) h = same (func_key p) h.0
extern_ids-agree P f g same (Instance p) h = same (interface_key p) h.0
extern_ids-agree P f g same (Component p) h = same (world_key p) h.0
extern_ids-agree P f g same (Module p) h = refl
extern_ids-agree P f g same (Value v) h = refl

externs_ids-agree : (P : Key → Type 0) (f g : Key → List Id) → ((k : Key) → P k → f k ≡ g k) → (es : List (Text × ItemKind)) → Each P (named_keys item_keys es) → externs_ids f es ≡ externs_ids g es
externs_ids-agree P f g same [] h = refl
externs_ids-agree P f g same (e ∷ es) h =
    rw (extern_ids-agree P f g same e.1 (Each-left P (item_keys e.1) (named_keys item_keys es) h), externs_ids-agree P f g same es (Each-right P (item_keys e.1) (named_keys item_keys es) h)) refl

pub entry_ids-local : (P : Key → Type 0) → Agrees entry_ids entry_ids P
entry_ids-local P f g same (defined_entry e) h = refl
entry_ids-local P f g same (resource_entry e) h = refl
entry_ids-local P f g same (func_entry e) h = refl
entry_ids-local P f g same (interface_entry e) h = externs_ids-agree P f g same e.exports (Each-right P (named_keys use_keys e.uses) (named_keys item_keys e.exports) h)
entry_ids-local P f g same (world_entry e) h =
    let imports = Each-right P (named_keys use_keys e.uses) (named_keys item_keys e.imports) (Each-left P (named_keys use_keys e.uses ++ named_keys item_keys e.imports) (named_keys item_keys e.exports) h) in
    let exports = Each-right P (named_keys use_keys e.uses ++ named_keys item_keys e.imports) (named_keys item_keys e.exports) h in
    rw (externs_ids-agree P f g same e.imports imports, externs_ids-agree P f g same e.exports exports) refl
entry_ids-local P f g same (module_entry e) h = refl

pub referred-func : (c : Collection) (p : Id) (e : FuncContent) → IsSound c → Stands c (func_key p) → slice_get c.funcs p.index ≡ Some e → referred c (func_key p) ≡ func_ids e
referred-func c p e s st at = unfolded-entry [] entry_ids entry_ids-local c (func_key p) (func_entry e) s st (slice_get-map func_entry c.funcs p.index ∙ ap (option_map func_entry) at)

pub referred-interface : (c : Collection) (p : Id) (e : InterfaceContent) → IsSound c → Stands c (interface_key p) → slice_get c.interfaces p.index ≡ Some e → referred c (interface_key p) ≡ externs_ids (referred c) e.exports
referred-interface c p e s st at = unfolded-entry [] entry_ids entry_ids-local c (interface_key p) (interface_entry e) s st (slice_get-map interface_entry c.interfaces p.index ∙ ap (option_map interface_entry) at)

pub referred-world : (c : Collection) (p : Id) (e : WorldContent) → IsSound c → Stands c (world_key p) → slice_get c.worlds p.index ≡ Some e → referred c (world_key p) ≡ (externs_ids (referred c) e.imports ++ externs_ids (referred c) e.exports)
referred-world c p e s st at = unfolded-entry [] entry_ids entry_ids-local c (world_key p) (world_entry e) s st (slice_get-map world_entry c.worlds p.index ∙ ap (option_map world_entry) at)

-- the ids of an import or an export stand where those of all do, and are no higher
pub extern-stands : (c : Collection) (es : List (String Global × ItemKind)) (i : ℕ) (k : ItemKind) → slice_get (types_of es) i ≡ Some k → AllStand c (named_keys item_keys (named (λ x. x) es)) → AllStand c (item_keys k)
extern-stands c es i k at h = Each-flat_map_at (Stands c) item_keys (types_of es) i k at (subst (λ ks. AllStand c ks) (flat_map-named item_keys es) h)

pub extern-lower : (c : Collection) (es : List (String Global × ItemKind)) (i : ℕ) (k : ItemKind) → slice_get (types_of es) i ≡ Some k → keys_height c (item_keys k) ≤ keys_height c (named_keys item_keys (named (λ x. x) es))
extern-lower c es i k at = subst (λ ks. keys_height c (item_keys k) ≤ keys_height c ks) (sym (flat_map-named item_keys es)) (largest-flat_map_at (height c) item_keys (types_of es) i k at)
