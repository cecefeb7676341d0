-- Two items that name a pair of entries alike.
use Rattle.std.proofs.Common.{◌≡◌, refl, sym, subst, ◌++◌, Option, Some, None, Result, IfOk, IfSome}
use Rattle.std.specs.Option.{option_map}
use Rattle.wac_model.specs.ItemTree.{Kind}
use Rattle.wac_bounds.specs.MeetIn.{IsMeetIn}
use Rattle.wac_component.specs.Collection.{Collection}
use Rattle.wac_component.specs.Key.{Stands, item_keys}
use Rattle.wac_component.specs.Tree.{item_tree}
use Rattle.wac_component.specs.declared.items.ItemKind.{ItemKind}
use Rattle.wac_component.proofs.Keys.{Each-left, Each-right}
use Rattle.wac_merge.specs.Bounded.{AreIncomparable}
use Rattle.wac_merge.specs.Built.{Origins, IsBuilt, first, second}
use Rattle.wac_merge.specs.Items.{entry_item}
use Rattle.wac_merge.specs.Memo.{made_of, first_key, second_key, bound_key, order_of, IsBoundOf, IsToldOf, IsTrueMemo}
use Rattle.wac_merge.specs.Runs.{FromBuilt}
use Rattle.wac_merge.specs.Told.{of_two, IsBoundIn, IsBoundWith}
use Rattle.wac_merge.specs.declared.memo.Bound.{Bound}
use Rattle.wac_merge.specs.declared.memo.Bound.TheVariants.{Meet, Join}
use Rattle.wac_merge.specs.declared.memo.BoundId.{BoundId}
use Rattle.wac_merge.specs.declared.memo.BoundMemo.{BoundMemo}
use Rattle.wac_merge.specs.declared.memo.BoundPair.{BoundPair}
use Rattle.wac_merge.specs.declared.memo.Untold.{Untold}
use Rattle.wac_merge.proofs.BoundLemmas.{incomparable_before}
use Rattle.wac_merge.proofs.BuiltLemmas.{made_item}

-- both items, or both as types
module _ (a b : ItemKind) (k : Kind) (p : BoundPair) (is_a : a ≡ entry_item k (first_key p)) (is_b : b ≡ entry_item k (second_key p)) where
  -- the bound of the two entries names that of the items
  pub bound_of : (t : Bound) (d e : Collection) (m : Option BoundId) (r : Option ItemKind) → r ≡ option_map (λ n. entry_item k (bound_key n)) m → IsBoundOf t d e p m
      → IsMeetIn (order_of t) (item_tree d a) (item_tree d b) (option_map (item_tree e) r)
  bound_of t d e m r is h =
      subst (λ x. IsMeetIn (order_of t) (item_tree d x) (item_tree d b) (option_map (item_tree e) r)) (sym is_a)
      (subst (λ x. IsMeetIn (order_of t) (item_tree d (entry_item k (first_key p))) (item_tree d x) (option_map (item_tree e) r)) (sym is_b)
      (subst (λ x. IsMeetIn (order_of t) (item_tree d (entry_item k (first_key p))) (item_tree d (entry_item k (second_key p))) (option_map (item_tree e) x)) (sym is) (h k)))

  -- what is told of the two entries is told of the items
  pub told_bound : (t : Bound) (d : Collection) (n : BoundMemo) (m : Option BoundId) (r : Option ItemKind) → IsTrueMemo d n → IsToldOf n (record { bound = t; pair = p }) (Some m) → r ≡ option_map (λ e. entry_item k (bound_key e)) m → IsBoundIn t d d a b r
  told_bound t d n None r known told is = bound_of t d d None r is (known.refused (record { bound = t; pair = p }) told).none
  told_bound t d n (Some e) r known told is = bound_of t d d (Some e) r is (known.made (record { bound = t; pair = p }, e) told).bound

  -- and built of them, where they don't compare
  pub told_built : (t : Bound) (d : Collection) (n : BoundMemo) (m : Option BoundId) (r : Option ItemKind) → IsToldOf n (record { bound = t; pair = p }) (Some m) → r ≡ option_map (λ e. entry_item k (bound_key e)) m → AreIncomparable (item_tree d a) (item_tree d b)
      → FromBuilt (item_keys a ++ item_keys b) d (made_of n) (λ c o. IfSome r (IsBuilt c d o a b))
  told_built t d n None r told is apart = λ c o sound stand only made. subst (λ z. IfSome z (IsBuilt c d o a b)) (sym is) tt
  told_built t d n (Some e) r told is apart = λ c o sound stand only made.
      let before : AreIncomparable (item_tree c a) (item_tree c b) = incomparable_before c d only.extends a b (Each-left (Stands c) (item_keys a) (item_keys b) stand) (Each-right (Stands c) (item_keys a) (item_keys b) stand) apart in
      subst (λ z. IfSome z (IsBuilt c d o a b)) (sym is) (made_item c d o a b k (first_key p) (second_key p) (bound_key e) is_a is_b before (made.each (record { bound = t; pair = p }, e) told).made)

-- one of the two is built of them
pub built_of_two : (u : Bound) (c d : Collection) (o : Origins) (a b : ItemKind) → IsBuilt c d o a b (of_two u a b)
built_of_two Meet c d o a b = first refl
built_of_two Join c d o a b = second refl

pub built_of_two_exchanged : (u : Bound) (c d : Collection) (o : Origins) (a b : ItemKind) → IsBuilt c d o a b (of_two u b a)
built_of_two_exchanged Meet c d o a b = second refl
built_of_two_exchanged Join c d o a b = first refl

-- an item, bound with what the other side has
pub bound_with_other : (u : Bound) (c : Collection) (a b : ItemKind) (o : Option ItemKind) → o ≡ Some b → (r : Result (Option ItemKind) Untold) → IfOk r (IsBoundIn u c c a b) → IfOk r (IsBoundWith u c c a o)
bound_with_other Meet c a b o is r h = subst (λ x. IfOk r (IsBoundWith Meet c c a x)) (sym is) h
bound_with_other Join c a b o is r h = subst (λ x. IfOk r (IsBoundWith Join c c a x)) (sym is) h
