-- What is believed, and the pairs of entries that fit for it.
use Rattle.std.proofs.Common.{◌≡◌, ◌≤◌, ◌<◌, inl, inr, ℕ, zero, suc, List, [], length, Bool, true, false, Some, refl, ap, subst, subst₂, ◌∙◌, arith}
use Rattle.std.specs.Prelude.{Contains}
use Rattle.std.proofs.lemmas.List.{length-map}
use Rattle.wac_model.specs.ItemTree.{item, type_item}
use Rattle.wac_component.specs.Id.{Id}
use Rattle.wac_component.specs.Collection.{Collection}
use Rattle.wac_component.specs.Height.{entry_height, height, keys_height}
use Rattle.wac_component.specs.Key.{Entry, Key, Sort, Stands, defined_sort, entries, entry_at, func_sort, interface_sort, item_keys, module_sort, resource_sort, world_sort}
use Rattle.wac_component.specs.Sound.{entry_count}
use Rattle.wac_component.specs.Unfolding.{unfolded, unfolded_within}
use Rattle.wac_component.specs.declared.items.ItemKind.{ItemKind}
use Rattle.wac_component.specs.declared.items.ItemKind.TheVariants.{«Type» as OfType, Value}
use Rattle.wac_component.specs.declared.items.Type.TheVariants.{Value as TypeValue}
use Rattle.wac_component.specs.declared.items.ValueType.TheVariants.{Defined}
use Rattle.wac_component.specs.Items.{type_of}
use Rattle.wac_component.proofs.Search.{there_is}
use Rattle.wac_checker.specs.Believed.{IsPairAmong, IsFittingBy, item_by, type_by}
use Rattle.wac_checker.specs.Cache.{AreInOrder, IsInOrder, OthersAreInOrder, Pair}
use Rattle.wac_checker_parts.specs.Pairs.{AreOfItems, DefinedTypes, Entries, EntriesFit, EntriesStand, IsStanding, entries_by, id_in, left_key, left_of, right_key, right_of}
use Rattle.wac_checker_parts.specs.declared.parts.EntryPair.{EntryPair}
use Rattle.wac_checker_parts.specs.declared.parts.PairSort.{PairSort}
use Rattle.wac_checker_parts.specs.declared.parts.PairSort.TheVariants as sort
use Rattle.wac_checker_parts.proofs.ItemPartLemmas.{of_funcs, of_interfaces, of_modules, of_values, of_worlds, types_of_funcs, types_of_interfaces, types_of_modules, types_of_worlds}

-- ---- which pairs are in the order

pub none_in_order : (c d : Collection) → AreInOrder c d []
none_in_order c d p m = absurd (omega (arith, m.1))

pub others_in_order : (c d : Collection) (q : Pair) (ps : List Pair) → (Contains ps q → ⊥) → OthersAreInOrder c d q ps → AreInOrder c d ps
others_in_order c d q ps apart h p m = h p m (λ same. apart (subst (λ (x : Pair). Contains ps x) same m))

-- ---- entries that are believed

module _ (l r : Collection) (a b : Id) where
  item_needed : (s : PairSort) → EntriesStand l r (entries_by s a b) → IsInOrder l r (item_by s a, item_by s b) → EntriesFit l r (entries_by s a b)
  item_needed sort.Defined h fits = (of_values l r (Value (Defined a)) (Value (Defined b)) item (Defined a) (Defined b) refl refl refl refl (DefinedTypes a b) (refl, refl, h, omega arith, omega arith)).needed (fits (h.0, tt) (h.1, tt))
  item_needed sort.Func h fits = (of_funcs l r a b h.0 h.1).needed (fits (h.0, tt) (h.1, tt))
  item_needed sort.Interface h fits = (of_interfaces l r a b h.0 h.1).needed (fits (h.0, tt) (h.1, tt))
  item_needed sort.World h fits = (of_worlds l r a b h.0 h.1).needed (fits (h.0, tt) (h.1, tt))
  item_needed sort.Module h fits = (of_modules l r a b h.0 h.1).needed (fits (h.0, tt) (h.1, tt))

  type_needed : (s : PairSort) → EntriesStand l r (entries_by s a b) → IsInOrder l r (type_by s a, type_by s b) → EntriesFit l r (entries_by s a b)
  type_needed sort.Defined h fits = (of_values l r (OfType (TypeValue (Defined a))) (OfType (TypeValue (Defined b))) type_item (Defined a) (Defined b) refl refl refl refl (DefinedTypes a b) (refl, refl, h, omega arith, omega arith)).needed (fits (h.0, tt) (h.1, tt))
  type_needed sort.Func h fits = (types_of_funcs l r a b h.0 h.1).needed (fits (h.0, tt) (h.1, tt))
  type_needed sort.Interface h fits = (types_of_interfaces l r a b h.0 h.1).needed (fits (h.0, tt) (h.1, tt))
  type_needed sort.World h fits = (types_of_worlds l r a b h.0 h.1).needed (fits (h.0, tt) (h.1, tt))
  type_needed sort.Module h fits = (types_of_modules l r a b h.0 h.1).needed (fits (h.0, tt) (h.1, tt))

either_way : (w : Bool) (c d : Collection) (q : Pair) → IsInOrder c d q × IsInOrder d c q → IsInOrder (left_of c d w) (right_of c d w) q
either_way false c d q h = h.0
either_way true c d q h = h.1

-- a pair that is among those that are believed fits for it
pub among_fits : (ps : List Pair) (c d : Collection) (p : EntryPair) → IsStanding c d p → IsPairAmong ps c d p → IsFittingBy ps c d p
among_fits ps c d p stand (inl m) told =
    let l = left_of c d p.swapped in
    let r = right_of c d p.swapped in
    item_needed l r (id_in l p.left) (id_in r p.right) p.sort stand (either_way p.swapped c d (item_by p.sort (id_in l p.left), item_by p.sort (id_in r p.right)) (told (item_by p.sort (id_in l p.left), item_by p.sort (id_in r p.right)) m))
among_fits ps c d p stand (inr m) told =
    let l = left_of c d p.swapped in
    let r = right_of c d p.swapped in
    type_needed l r (id_in l p.left) (id_in r p.right) p.sort stand (either_way p.swapped c d (type_by p.sort (id_in l p.left), type_by p.sort (id_in r p.right)) (told (type_by p.sort (id_in l p.left), type_by p.sort (id_in r p.right)) m))

as_type : (s : PairSort) (i : Id) → OfType (type_of (item_by s i)) ≡ type_by s i
as_type sort.Defined i = refl
as_type sort.Func i = refl
as_type sort.Interface i = refl
as_type sort.World i = refl
as_type sort.Module i = refl

-- two entries that are there as items, and as types
module _ (ps : List Pair) (c d l r : Collection) (p : EntryPair) (a b : ItemKind) (left : l ≡ left_of c d p.swapped) (right : r ≡ right_of c d p.swapped) (is_a : a ≡ item_by p.sort (id_in l p.left)) (is_b : b ≡ item_by p.sort (id_in r p.right)) where
  left_is : a ≡ item_by p.sort (id_in (left_of c d p.swapped) p.left)
  left_is = is_a ∙ ap (λ (k : Collection). item_by p.sort (id_in k p.left)) left

  right_is : b ≡ item_by p.sort (id_in (right_of c d p.swapped) p.right)
  right_is = is_b ∙ ap (λ (k : Collection). item_by p.sort (id_in k p.right)) right

  pub among_items : Contains ps (a, b) → IsPairAmong ps c d p
  among_items m = inl (subst₂ (λ (u v : ItemKind). Contains ps (u, v)) left_is right_is m)

  pub among_types : Contains ps (OfType (type_of a), OfType (type_of b)) → IsPairAmong ps c d p
  among_types m =
      let left_type = ap (λ (z : ItemKind). OfType (type_of z)) left_is ∙ as_type p.sort (id_in (left_of c d p.swapped) p.left) in
      let right_type = ap (λ (z : ItemKind). OfType (type_of z)) right_is ∙ as_type p.sort (id_in (right_of c d p.swapped) p.right) in
      inr (subst₂ (λ (u v : ItemKind). Contains ps (u, v)) left_type right_type m)

-- ---- items of entries have ids

few_entries : (c : Collection) (s : Sort) → length (entries c s) ≤ entry_count c
few_entries c defined_sort = simp length-map (omega arith)
few_entries c resource_sort = simp length-map (omega arith)
few_entries c func_sort = simp length-map (omega arith)
few_entries c interface_sort = simp length-map (omega arith)
few_entries c world_sort = simp length-map (omega arith)
few_entries c module_sort = simp length-map (omega arith)

high_within : (n : ℕ) (c : Collection) (k : Key) (e : Entry) → 0 < n → entry_at c k ≡ Some e → 0 < unfolded_within 0 entry_height n c k
high_within zero c k e some is = absurd (omega (arith, some))
high_within (suc n) c k e some is = rw is (omega arith)

high : (c : Collection) (k : Key) → Stands c k → 0 < height c k
unfolding unfolded
high c k h =
    let found = there_is (entries c k.sort) k.id.index h.1 in
    let few = few_entries c k.sort in
    high_within (entry_count c) c k found.0 (omega (arith, few, h.1)) found.1

has_keys : (c : Collection) (k : Key) (ks : List Key) → Stands c k → height c k ≤ keys_height c ks → ks ≡ [] → ⊥
has_keys c k ks h low none = let above = high c k h in let lowest = rw none at low in omega (arith, above, lowest)

module _ (l r : Collection) (x y : ItemKind) (e : Entries) (of : AreOfItems l r x y e) where
  pub left_has_keys : item_keys x ≡ [] → ⊥
  left_has_keys = has_keys l (left_key e) (item_keys x) of.stand.0 of.left_lower

  pub right_has_keys : item_keys y ≡ [] → ⊥
  right_has_keys = has_keys r (right_key e) (item_keys y) of.stand.1 of.right_lower
