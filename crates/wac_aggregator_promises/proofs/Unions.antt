-- A meet of maps from names to leaves is their union.
use Rattle.std.proofs.Common.{◌≡◌, ◌⊎◌, inl, inr, refl, subst, sym, ap, ◌∙◌, Bool, true, false, cond, arith, List, [], ◌∷◌, Option, Some, None, Contains, All}
use Rattle.std.specs.Str.{bytes_eq}
use Rattle.std.proofs.lemmas.List.Elements.{All-contains, Contains-get_or}
use Rattle.std.proofs.lemmas.Slice.Eq.{bytes_eq-Decides}
use Rattle.wac_model.specs.Text.{Text}
use Rattle.wac_model.specs.CoreTree.{Serves}
use Rattle.wac_model.specs.ItemTree.{Kind, Leaf, ItemTree, Items, item, leaf, composite, interface, no_items, named, item_at}
use Rattle.wac_model.specs.Order.{Fits, leaves, composites}
use Rattle.wac_model.proofs.ItemOrder.{to_serves, composite_fits, composite_from}
use Rattle.wac_bounds.specs.Bounds.{IsMeet}
use Rattle.wac_component.proofs.Among.{Contains-first, Contains-later, Contains-cases}
use Rattle.wac_aggregator_promises.specs.Leaves.{IsLeafMap, export_at, IsUnionOf}
use Rattle.wac_aggregator_promises.specs.Laws.{MeetsAreUnions}
use Rattle.wac_aggregator_promises.proofs.LeafMaps.{union_is_meet}
use Rattle.wac_aggregator_promises.proofs.WitReasons.{instance_fits}

-- items without a name
without : Text → Items → Items
without n no_items = no_items
without n (named m t ts) = cond (bytes_eq n m) (without n ts) (named m t (without n ts))

under_other : (n k m : Text) (t : ItemTree) (ts rest : Items) (b : Bool) → bytes_eq n m ≡ b → (bytes_eq k n ≡ false → item_at rest k ≡ item_at ts k) → bytes_eq k n ≡ false
    → item_at (cond b rest (named m t rest)) k ≡ item_at (named m t ts) k
under_other n k m t ts rest true e h q = past (bytes_eq k m) refl
  where
    past : (c : Bool) → bytes_eq k m ≡ c → item_at rest k ≡ cond c (Some t) (item_at ts k)
    past true f =
        let same : k ≡ n = (bytes_eq-Decides k m).0 f ∙ sym ((bytes_eq-Decides n m).0 e) in
        let there = (bytes_eq-Decides k n).1 same in
        absurd (cc (q, there))
    past false f = h q
under_other n k m t ts rest false e h q = ap (λ o. cond (bytes_eq k m) (Some t) o) (h q)

other_kept : (n : Text) (ts : Items) (k : Text) → bytes_eq k n ≡ false → item_at (without n ts) k ≡ item_at ts k
unfolding without
other_kept n no_items k q = refl
other_kept n (named m t ts) k q = under_other n k m t ts (without n ts) (bytes_eq n m) refl (other_kept n ts k) q

none_left : (n m : Text) (t : ItemTree) (rest : Items) (b : Bool) → bytes_eq n m ≡ b → item_at rest n ≡ None → item_at (cond b rest (named m t rest)) n ≡ None
none_left n m t rest true e h = h
none_left n m t rest false e h = rw e h

name_gone : (n : Text) (ts : Items) → item_at (without n ts) n ≡ None
unfolding without
name_gone n no_items = refl
name_gone n (named m t ts) = none_left n m t (without n ts) (bytes_eq n m) refl (name_gone n ts)

-- items without names are none
all_none : (i : Items) → ((n : Text) → item_at i n ≡ None) → i ≡ no_items
all_none no_items h = refl
all_none (named m t ts) h = let here : item_at (named m t ts) m ≡ Some t = rw ((bytes_eq-Decides m m).1 refl) refl in let none = h m in absurd (cc (here, none))

-- what is below an instance is one
record IsInstance (m : ItemTree) : Type 0 where
  pub exports : Items
  pub is_instance : m ≡ composite item interface no_items exports

serves_none : (o : Option ItemTree) → Serves Fits None o → o ≡ None
serves_none None h = refl
serves_none (Some t) h = absurd h

below_instance : {m : ItemTree} {es : Items} → Fits m (composite item interface no_items es) → IsInstance m
below_instance (composites {i = i} {e = e} p q) = record {
  exports = e;
  is_instance = ap (λ (j : Items). composite item interface j e) (all_none i (λ n. serves_none (item_at i n) (to_serves (q n))));
}

below_leaf : {y : ItemTree} {k : Kind} {l : Leaf} → Fits y (leaf k l) → y ≡ leaf k l
below_leaf leaves = refl

some_same : {k l : ItemTree} → ◌≡◌ {A = Option ItemTree} (Some k) (Some l) → k ≡ l
some_same e = cc e

-- one of the trees exports the name, or none does
record IsExported (n : Text) (us : List ItemTree) : Type 0 where
  pub tree : ItemTree
  pub export : ItemTree
  pub among : Contains us tree
  pub is_export : export_at tree n ≡ Some export

search : (n : Text) (us : List ItemTree) → IsExported n us ⊎ ((x : ItemTree) → Contains us x → export_at x n ≡ None)
search n [] = inr (λ x m. absurd (omega (arith, m.1)))
search n (u ∷ us) = at_first (export_at u n) refl (search n us)
  where
    none : export_at u n ≡ None → ((x : ItemTree) → Contains us x → export_at x n ≡ None) → (x : ItemTree) → Contains (u ∷ us) x → export_at x n ≡ None
    none e h x m = by_cases (Contains-cases x u us m)
      where
        by_cases : (u ≡ x) ⊎ Contains us x → export_at x n ≡ None
        by_cases (inl f) = subst (λ (z : ItemTree). export_at z n ≡ None) f e
        by_cases (inr k) = h x k

    at_first : (o : Option ItemTree) → export_at u n ≡ o → IsExported n us ⊎ ((x : ItemTree) → Contains us x → export_at x n ≡ None) → IsExported n (u ∷ us) ⊎ ((x : ItemTree) → Contains (u ∷ us) x → export_at x n ≡ None)
    at_first (Some y) e h = inl record { tree = u; export = y; among = Contains-first u us; is_export = e }
    at_first None e (inl k) = inl record { tree = k.tree; export = k.export; among = Contains-later k.tree u us k.among; is_export = k.is_export }
    at_first None e (inr h) = inr (none e h)

module _ (t : ItemTree) (ts : List ItemTree) (m : ItemTree) (maps : All IsLeafMap (t ∷ ts)) (meet : IsMeet m (t ∷ ts)) where
  map_of : (x : ItemTree) → Contains (t ∷ ts) x → IsLeafMap x
  map_of x at = All-contains IsLeafMap (t ∷ ts) x maps at

  below : (x : ItemTree) → Contains (t ∷ ts) x → Fits m x
  below x at = All-contains (λ (y : ItemTree). Fits m y) (t ∷ ts) x meet.is_below at

  self : IsInstance m
  self = below_instance (subst (λ (y : ItemTree). Fits m y) (map_of t (Contains-first t ts)).is_instance (below t (Contains-first t ts)))

  -- what one of them exports, the meet does
  of_each : (x : ItemTree) (n : Text) (y : ItemTree) → Contains (t ∷ ts) x → export_at x n ≡ Some y → export_at m n ≡ Some y
  of_each x n y at e =
      let k = map_of x at in
      let e' : item_at k.exports n ≡ Some y = ap (λ (z : ItemTree). export_at z n) (sym k.is_instance) ∙ e in
      let l = k.leaves n y e' in
      let f = instance_fits m k.exports n y (subst (λ (z : ItemTree). Fits m z) k.is_instance (below x at)) e' in
      let same : f.0 ≡ y = below_leaf (subst (λ (z : ItemTree). Fits f.0 z) l.2 f.2) ∙ sym l.2 in
      f.1 ∙ ap (λ (z : ItemTree). Some z) same

  -- the meet exports no other name: without it, it would be below all of them too
  module _ (n : Text) (none : (x : ItemTree) → Contains (t ∷ ts) x → export_at x n ≡ None) where
    smaller : ItemTree
    smaller = composite item interface no_items (without n self.exports)

    smaller_at : (es : Items) → item_at es n ≡ None → Fits (composite item interface no_items self.exports) (composite item interface no_items es) → Fits smaller (composite item interface no_items es)
    unfolding smaller
    smaller_at es gone h = composite_from item interface no_items (without n self.exports) no_items es record { exports = λ k. at k (bytes_eq k n) refl; imports = λ k. tt }
      where
        at : (k : Text) (b : Bool) → bytes_eq k n ≡ b → Serves Fits (item_at (without n self.exports) k) (item_at es k)
        at k true q = subst (λ (o : Option ItemTree). Serves Fits (item_at (without n self.exports) k) o) (sym (ap (item_at es) ((bytes_eq-Decides k n).0 q) ∙ gone)) tt
        at k false q = subst (λ (o : Option ItemTree). Serves Fits o (item_at es k)) (sym (other_kept n self.exports k q)) ((composite_fits h).exports k)

    smaller_below : (x : ItemTree) → Contains (t ∷ ts) x → Fits smaller x
    smaller_below x at =
        let k = map_of x at in
        subst (λ (z : ItemTree). Fits smaller z) (sym k.is_instance)
        (smaller_at k.exports (ap (λ (z : ItemTree). export_at z n) (sym k.is_instance) ∙ none x at)
        (subst (λ (z : ItemTree). Fits z (composite item interface no_items k.exports)) self.is_instance (subst (λ (z : ItemTree). Fits m z) k.is_instance (below x at))))

    smaller_fits : Fits smaller m
    smaller_fits = meet.is_greatest smaller (λ k d l. smaller_below _ (Contains-get_or (t ∷ ts) k d l))

    pub no_other : export_at m n ≡ None
    unfolding smaller
    no_other =
        let f = (composite_fits (subst (λ (z : ItemTree). Fits smaller z) self.is_instance smaller_fits)).exports n in
        ap (λ (z : ItemTree). export_at z n) self.is_instance ∙ serves_none (item_at self.exports n) (subst (λ (o : Option ItemTree). Serves Fits o (item_at self.exports n)) (name_gone n self.exports) f)

  is_union : IsUnionOf m (t ∷ ts)
  is_union = record {
    is_map = record { exports = self.exports; is_instance = self.is_instance; leaves = λ n x e. at_leaf n x (ap (λ (z : ItemTree). export_at z n) self.is_instance ∙ e) };
    of_each = of_each;
    of_one = of_one;
  }
    where
      of_one : (n : Text) (x : ItemTree) → export_at m n ≡ Some x → (y : ItemTree) × Contains (t ∷ ts) y × (export_at y n ≡ Some x)
      of_one n x e = by_cases (search n (t ∷ ts))
        where
          by_cases : IsExported n (t ∷ ts) ⊎ ((y : ItemTree) → Contains (t ∷ ts) y → export_at y n ≡ None) → (y : ItemTree) × Contains (t ∷ ts) y × (export_at y n ≡ Some x)
          by_cases (inl k) = (k.tree, k.among, k.is_export ∙ ap (λ (z : ItemTree). Some z) (some_same (sym (of_each k.tree n k.export k.among k.is_export) ∙ e)))
          by_cases (inr none) = let gone = no_other n none in absurd (cc (gone, e))

      at_leaf : (n : Text) (x : ItemTree) → export_at m n ≡ Some x → (k : Kind) × (l : Leaf) × (x ≡ leaf k l)
      at_leaf n x e =
          let y = of_one n x e in
          let k = map_of y.0 y.1 in
          k.leaves n x (ap (λ (z : ItemTree). export_at z n) (sym k.is_instance) ∙ y.2)

pub meets_are_unions : MeetsAreUnions
meets_are_unions t ts m maps = (is_union t ts m maps, union_is_meet t ts m maps)
