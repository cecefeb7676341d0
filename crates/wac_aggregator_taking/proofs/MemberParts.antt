-- What is taken in of interfaces as WIT gives them: leaves, uses, and the interface itself.
use Rattle.std.proofs.Common.{◌≡◌, ◌⊎◌, inl, inr, refl, ap, sym, subst, ◌∙◌, arith, All, Contains, IsSome, is_some, Bool, true, false, cond, List, ◌∷◌, Option, Some}
use Rattle.std.proofs.lemmas.List.Elements.{All-cons, All-head, All-nil, All-tail}
use Rattle.std.specs.Option.{option_map}
use Rattle.std.specs.Str.{bytes_eq}
use Rattle.wac_model.specs.Text.{Text, lookup}
use Rattle.wac_model.specs.ItemTree.{ItemTree, named, leaf, item, type_item, func, value, resource}
use Rattle.wac_model.specs.Order.{Fits, leaves, modules, composites}
use Rattle.wac_component.specs.Collection.{Collection, UseContent}
use Rattle.wac_component.specs.Id.{Id}
use Rattle.wac_component.specs.Implicit.{HasIdentifier, identifier}
use Rattle.wac_component.specs.Key.{Key, Stands, interface_key}
use Rattle.wac_aggregator_memo.specs.Memo.{AddsPair, memo_of}
use Rattle.wac_component.specs.Reach.{IsAmong}
use Rattle.wac_component.specs.Tree.{item_tree, items_of}
use Rattle.wac_component.specs.declared.items.ItemKind.{ItemKind}
use Rattle.wac_component.specs.declared.items.ItemKind.TheVariants.{«Type» as OfType, Func}
use Rattle.wac_component.specs.declared.items.Type.TheVariants.{Resource as TypeResource, Value as TypeValue}
use Rattle.wac_component.proofs.Among.{Contains-first, Contains-later, Contains-cases}
use Rattle.wac_merge.specs.Items.{ExternKinds}
use Rattle.wac_names.specs.Class.{Class, class_of}
use Rattle.wac_aggregator_promises.specs.Entries.{ReachesByUses, stay}
use Rattle.wac_aggregator_promises.specs.Shared.{TakenIds, AreShared, IsUseOf}
use Rattle.wac_aggregator_promises.specs.WitList.{IsLeafItem}
use Rattle.wac_aggregator_narrowing.specs.Traced.{IsArrowed}
use Rattle.wac_aggregator_narrowing.specs.State.{State, IsOneWith}
use Rattle.wac_aggregator_narrowing.specs.Taking.{AreMapped, none, one, IsTakenItem}
use Rattle.wac_aggregator_taking.specs.Members.{HasTakenIn, HasAllOf, AreMore, TakesMembers, roots_of}
use Rattle.wac_aggregator_taking.specs.Takes.{MayTake, IsOwnUse, shared_in, shared_keys, state_of}
use Rattle.wac_aggregator_taking.specs.declared.state.Merging.{Merging}
use Rattle.wac_aggregator_taking.proofs.Alike.{some_of}
use Rattle.wac_aggregator_taking.proofs.Identifiers.{identifier_of}

-- ---- leaves

-- the tree of a function, a value type or a resource
abbrev pub IsLeafTree : ItemTree → Type 0
IsLeafTree (leaf item (func f)) = Unit {0}
IsLeafTree (leaf type_item (value v)) = Unit {0}
IsLeafTree (leaf type_item (resource r)) = Unit {0}
IsLeafTree t = ⊥

abbrev IsLeafEntry : Text × ItemKind → Type 0
IsLeafEntry e = IsLeafItem e.1

abbrev pub AreLeaves : ExternKinds → Type 0
AreLeaves es = All (λ (e : Text × ItemKind). IsLeafItem e.1) es

pub leaf_tree : (c : Collection) (x : ItemKind) → IsLeafItem x → IsLeafTree (item_tree c x)
leaf_tree c (Func g) h = tt
leaf_tree c (OfType (TypeValue v)) h = tt
leaf_tree c (OfType (TypeResource r)) h = tt
leaf_tree c _ h = absurd h

pub leaf_is : (c : Collection) (x : ItemKind) → IsLeafTree (item_tree c x) → IsLeafItem x
leaf_is c (Func g) h = tt
leaf_is c (OfType (TypeValue v)) h = tt
leaf_is c (OfType (TypeResource r)) h = tt
leaf_is c _ h = absurd h

-- what fits where a leaf is asked for is that leaf
pub leaf_fits : (s t : ItemTree) → IsLeafTree t → Fits s t → s ≡ t
leaf_fits s t h leaves = refl
leaf_fits s t h (modules m) = absurd h
leaf_fits s t h (composites e i) = absurd h

-- leaves that were taken in are leaves, with their trees
module _ (f : Collection) (s : State) where
  taken_leaf : (x y : ItemKind) → IsTakenItem class_of f s x y → IsLeafItem x → IsLeafItem y × (item_tree s.own y ≡ item_tree f x)
  taken_leaf x y h is =
      let same = leaf_fits (item_tree s.own y) (item_tree f x) (leaf_tree f x is) h.fits in
      (leaf_is s.own y (subst IsLeafTree (sym same) (leaf_tree f x is)), same)

  pub taken_leaves : (xs es : ExternKinds) → AreMapped (IsTakenItem class_of f s) xs es → AreLeaves xs → AreLeaves es × (items_of (item_tree s.own) es ≡ items_of (item_tree f) xs)
  taken_leaves _ _ none are = (All-nil IsLeafEntry, refl)
  taken_leaves _ _ (one {n = n} {x = x} {y = y} {xs = xs} {ys = ys} h m) are =
      let first = taken_leaf x y h (All-head IsLeafEntry (n, x) xs are) in
      let rest = taken_leaves xs ys m (All-tail IsLeafEntry (n, x) xs are) in
      (All-cons IsLeafEntry (n, y) ys first.0 rest.0, λ i. named n (first.1 i) (rest.1 i))

  pub taken_trees : (xs es : ExternKinds) → AreMapped (IsTakenItem class_of f s) xs es → AreLeaves xs → (name : Text) → option_map (item_tree s.own) (lookup bytes_eq es name) ≡ option_map (item_tree f) (lookup bytes_eq xs name)
  taken_trees _ _ none are name = refl
  taken_trees _ _ (one {n = n} {x = x} {y = y} {xs = xs} {ys = ys} h m) are name = at (bytes_eq name n) (taken_trees xs ys m (All-tail IsLeafEntry (n, x) xs are) name)
    where
      at : (b : Bool) → option_map (item_tree s.own) (lookup bytes_eq ys name) ≡ option_map (item_tree f) (lookup bytes_eq xs name)
          → option_map (item_tree s.own) (cond b (Some y) (lookup bytes_eq ys name)) ≡ option_map (item_tree f) (cond b (Some x) (lookup bytes_eq xs name))
      at true rest = ap (λ (t : ItemTree). Some t) (taken_leaf x y h (All-head IsLeafEntry (n, x) xs are)).1
      at false rest = rest

-- ---- uses

abbrev IsSameUse : Text × UseContent → Text × UseContent → Type 0
IsSameUse p q = p ≡ q

module _ (f : Collection) (a : Merging) (may : MayTake f a) (taken : TakenIds) (has : HasTakenIn a taken) where
  -- a use that was taken in is of the shared entry on its track
  pub use_of : (u v : UseContent) → IsOwnUse f (state_of a) u v → IsUseOf (shared_in a.shared.entries) v f u
  use_of u v h = by (some_of (identifier f u.interface) h.identified)
    where
      -- the identifiers of the own interface are one
      same : (m n : Text) → ◌≡◌ {A = Option Text} (Some m) (Some n) → m ≡ n
      same m n e = cc

      by : (n : Text) × (identifier f u.interface ≡ Some n) → IsUseOf (shared_in a.shared.entries) v f u
      by n =
          let is = h.interface.remembered.shared n.0 (identifier_of f u.interface n.0 n.1) in
          let found = has.found v.interface is.is_shared in
          let filed = may.filed.on_class found.0 v.interface found.1 in
          let on : found.0 ≡ class_of n.0 = sym filed.2 ∙ ap class_of (same filed.0 is.name (sym filed.1 ∙ is.identified)) ∙ is.on_track in
          record { track = class_of n.0; is_on = record { name = n.0; identified = n.1; on_track = refl }; is_shared = subst (λ q. shared_in a.shared.entries q ≡ Some v.interface) on found.1; same_name = h.name }

  -- each use was taken in so, and no others
  pub used_of : (xs us : List (Text × UseContent)) → AreMapped (IsOwnUse f (state_of a)) xs us → (name : Text) (u : UseContent) → Contains xs (name, u) → (v : UseContent) × Contains us (name, v) × IsUseOf (shared_in a.shared.entries) v f u
  used_of _ _ none name u among = absurd (omega (arith, among.1))
  used_of _ _ (one {n = n} {x = x} {y = y} {xs = xs} {ys = ys} h m) name u among = by (used_of xs ys m name u) (Contains-cases (name, u) (n, x) xs among)
    where
      by : (Contains xs (name, u) → (v : UseContent) × Contains ys (name, v) × IsUseOf (shared_in a.shared.entries) v f u) → IsSameUse (n, x) (name, u) ⊎ Contains xs (name, u)
          → (v : UseContent) × Contains ((n, y) ∷ ys) (name, v) × IsUseOf (shared_in a.shared.entries) v f u
      by later (inl e) = (y, subst (λ k. Contains ((n, y) ∷ ys) (k, y)) (ap (λ (p : Text × UseContent). p.0) e) (Contains-first (n, y) ys), subst (λ w. IsUseOf (shared_in a.shared.entries) y f w) (ap (λ (p : Text × UseContent). p.1) e) (use_of x y h))
      by later (inr k) = let r = later k in (r.0, Contains-later (name, r.0) (n, y) ys r.1, r.2)

  pub used_by : (xs us : List (Text × UseContent)) → AreMapped (IsOwnUse f (state_of a)) xs us → (name : Text) (v : UseContent) → Contains us (name, v) → (u : UseContent) × Contains xs (name, u) × IsUseOf (shared_in a.shared.entries) v f u
  used_by _ _ none name v among = absurd (omega (arith, among.1))
  used_by _ _ (one {n = n} {x = x} {y = y} {xs = xs} {ys = ys} h m) name v among = by (used_by xs ys m name v) (Contains-cases (name, v) (n, y) ys among)
    where
      by : (Contains ys (name, v) → (u : UseContent) × Contains xs (name, u) × IsUseOf (shared_in a.shared.entries) v f u) → IsSameUse (n, y) (name, v) ⊎ Contains ys (name, v)
          → (u : UseContent) × Contains ((n, x) ∷ xs) (name, u) × IsUseOf (shared_in a.shared.entries) v f u
      by later (inl e) = (x, subst (λ k. Contains ((n, x) ∷ xs) (k, x)) (ap (λ (p : Text × UseContent). p.0) e) (Contains-first (n, x) xs), subst (λ w. IsUseOf (shared_in a.shared.entries) w f x) (ap (λ (p : Text × UseContent). p.1) e) (use_of x y h))
      by later (inr k) = let r = later k in (r.0, Contains-later (name, r.0) (n, x) xs r.1, r.2)

-- ---- the interface itself

abbrev IsSameInterface : Collection × Id → Collection × Id → Type 0
IsSameInterface p q = p ≡ q

-- it is one more
pub AreMore-put : (f : Collection) (p : Id) (taken : TakenIds) → AreMore f (ReachesByUses f p) taken ((f, p) ∷ taken)
AreMore-put f p taken = record { old = λ c i m. Contains-later (c, i) (f, p) taken m; new = λ c i m. new c i (Contains-cases (c, i) (f, p) taken m) }
  where
    new : (c : Collection) (i : Id) → IsSameInterface (f, p) (c, i) ⊎ Contains taken (c, i) → Contains taken (c, i) ⊎ ((c ≡ f) × ReachesByUses f p i)
    new c i (inl e) = inr (ap (λ (q : Collection × Id). q.0) (sym e), subst (λ j. ReachesByUses f p j) (ap (λ (q : Collection × Id). q.1) e) stay)
    new c i (inr m) = inl m

-- an interface was taken in after others, and is remembered
pub TakesMembers-put : (f : Collection) (a b : Merging) (p own : Id) (taken : TakenIds) → Stands f (interface_key p) → HasTakenIn a taken → AreShared ((f, p) ∷ taken) b.types (shared_in b.shared.entries)
    → ((e : Id) → IsAmong (interface_key e) (shared_keys b.shared.entries) → (t : Class) × (shared_in b.shared.entries t ≡ Some e))
    → AddsPair (memo_of a.taken) (memo_of b.taken) (interface_key p) (interface_key own) → IsArrowed b.types (shared_keys b.shared.entries) (roots_of ((f, p) ∷ taken)) → TakesMembers f a b (ReachesByUses f p) taken
TakesMembers-put f a b p own taken stands has shared found pair arrowed = record {
  more = (f, p) ∷ taken;
  are_more = AreMore-put f p taken;
  has = record { shared = shared; found = found; noted = λ c i m. noted c i (Contains-cases (c, i) (f, p) taken m); arrowed = arrowed };
  all = λ g is_one h i number has_name is. all g is_one h i number has_name (some_of (memo_of b.taken (interface_key i)) is);
}
  where
    -- what is noted is remembered
    is_there : (i : Id) (o : Key) → memo_of b.taken (interface_key i) ≡ Some o → IsSome (memo_of b.taken (interface_key i))
    is_there i o is = ap is_some is

    noted : (c : Collection) (i : Id) → IsSameInterface (f, p) (c, i) ⊎ Contains taken (c, i) → IsSome (memo_of b.taken (interface_key i))
    noted c i (inl e) = subst (λ j. IsSome (memo_of b.taken (interface_key j))) (ap (λ (q : Collection × Id). q.1) e) (is_there p (interface_key own) pair.is)
    noted c i (inr m) = let o = some_of (memo_of a.taken (interface_key i)) (has.noted c i m) in is_there i o.0 (pair.kept (interface_key i) o.0 o.1)

    all : (g : Collection) → IsOneWith f g → HasAllOf g a taken → (i : Id) → i.number ≡ g.number → HasIdentifier g i → (o : Key) × (memo_of b.taken (interface_key i) ≡ Some o) → Contains ((f, p) ∷ taken) (g, i)
    all g is_one h i number has_name o = by (pair.only (interface_key i) o.0 o.1)
      where
        by : ((interface_key i ≡ interface_key p) × (o.0 ≡ interface_key own)) ⊎ (memo_of a.taken (interface_key i) ≡ Some o.0) → Contains ((f, p) ∷ taken) (g, i)
        by (inl e) =
            let same : i ≡ p = ap (λ (k : Key). k.id) e.0 in
            let whole : g ≡ f = is_one (sym number ∙ ap (λ (j : Id). j.number) same ∙ stands.0) in
            subst (λ (q : Collection × Id). Contains ((f, p) ∷ taken) q) (λ t. (sym whole t, sym same t)) (Contains-first (f, p) taken)
        by (inr was) = Contains-later (g, i) (f, p) taken (h i number has_name (ap is_some was))
