-- Each entry that a call adds is the one meet or the one join of an ordered pair.
use Rattle.std.proofs.Common.{◌≡◌, refl, ap, sym, subst, ◌∙◌, inl, inr, [], ◌∷◌, Contains, Some, arith}
use Rattle.wac_model.specs.Order.{Fits}
use Rattle.wac_component.specs.Collection.{Collection}
use Rattle.wac_component.specs.Growth.{Extends}
use Rattle.wac_component.specs.Key.{Key, interface_sort, world_sort, module_sort, Stands}
use Rattle.wac_component.specs.Tree.{item_tree}
use Rattle.wac_component.proofs.Among.{Contains-first, Contains-later, Contains-cases}
use Rattle.wac_component.proofs.Keys.{Key-discrete}
use Rattle.wac_merge.specs.Built.{Origins, IsAdded, IsBoundAs, AreOnes}
use Rattle.wac_merge.specs.Items.{entry_item}
use Rattle.wac_merge.specs.Memo.{Made, made_of, first_key, second_key, bound_key, IsBoundOf, AreMadeOnce, IsTrueMemo}
use Rattle.wac_merge.specs.Runs.{IsNoted, AreMadeOn}
use Rattle.wac_merge.specs.declared.memo.Asked.{Asked}
use Rattle.wac_merge.specs.declared.memo.Bound.{Bound}
use Rattle.wac_merge.specs.declared.memo.Bound.TheVariants.{Meet, Join}
use Rattle.wac_merge.specs.declared.memo.BoundId.{BoundId}
use Rattle.wac_merge.specs.declared.memo.BoundMemo.{BoundMemo}
use Rattle.wac_merge.specs.declared.memo.BoundPair.{BoundPair}
use Rattle.wac_merge.specs.declared.memo.BoundPair.TheVariants.{Interfaces, Worlds, Modules}
use Rattle.wac_merge.proofs.BoundLemmas.{bound_before}
use Rattle.wac_merge.proofs.BuiltLemmas.{entry_item_stands}

-- a pair is the two that it names
pair_same : (p q : BoundPair) → first_key p ≡ first_key q → second_key p ≡ second_key q → p ≡ q
pair_same (Interfaces x y) (Interfaces u v) f s = λ i. Interfaces (f i).id (s i).id
pair_same (Worlds x y) (Worlds u v) f s = λ i. Worlds (f i).id (s i).id
pair_same (Modules x y) (Modules u v) f s = λ i. Modules (f i).id (s i).id
pair_same (Interfaces x y) (Worlds u v) f s = let apart : interface_sort ≡ world_sort = ap (λ (k : Key). k.sort) f in absurd (cc)
pair_same (Interfaces x y) (Modules u v) f s = let apart : interface_sort ≡ module_sort = ap (λ (k : Key). k.sort) f in absurd (cc)
pair_same (Worlds x y) (Interfaces u v) f s = let apart : world_sort ≡ interface_sort = ap (λ (k : Key). k.sort) f in absurd (cc)
pair_same (Worlds x y) (Modules u v) f s = let apart : world_sort ≡ module_sort = ap (λ (k : Key). k.sort) f in absurd (cc)
pair_same (Modules x y) (Interfaces u v) f s = let apart : module_sort ≡ interface_sort = ap (λ (k : Key). k.sort) f in absurd (cc)
pair_same (Modules x y) (Worlds u v) f s = let apart : module_sort ≡ world_sort = ap (λ (k : Key). k.sort) f in absurd (cc)

asked_same : (a b : Asked) → a.bound ≡ b.bound → a.pair ≡ b.pair → a ≡ b
asked_same a b f s = λ i. record { bound = f i; pair = s i }

-- what is made once is made as one entry
made_once : (ms : Made) → AreMadeOnce ms → (a : Asked) (p q : BoundId) → Contains ms (a, p) → Contains ms (a, q) → p ≡ q
made_once [] h a p q m n = absurd (omega (arith, m.1))
made_once (x ∷ xs) h a p q m n = elim (Contains-cases (a, p) x xs m) [
  | inl here ↦ elim (Contains-cases (a, q) x xs n) [
    | inl too ↦ ap (λ (z : Asked × BoundId). z.1) (sym here ∙ too)
    | inr later ↦ elim (h.0 q (subst (λ (z : Asked). Contains xs (z, q)) (sym (ap (λ (z : Asked × BoundId). z.0) here)) later)) [ ]
  ]
  | inr later ↦ elim (Contains-cases (a, q) x xs n) [
    | inl here ↦ elim (h.0 p (subst (λ (z : Asked). Contains xs (z, p)) (sym (ap (λ (z : Asked × BoundId). z.0) here)) later)) [ ]
    | inr too ↦ made_once xs h.1 a p q later too
  ]
]

-- the bound that the first of an entry's key was made for
bound_in : {P : Type 0} → Dec P → Bound → Bound → Bound
bound_in (yes h) b c = b
bound_in (no h) b c = c

chosen : Made → Key → Bound
chosen [] m = Meet
chosen (x ∷ xs) m = bound_in (Key-discrete (bound_key x.1) m) x.0.bound (chosen xs m)

record Noted (ms : Made) (m : Key) (b : Bound) : Type 0 where
  asked : Asked × BoundId
  there : Contains ms asked
  is : bound_key asked.1 ≡ m
  bound : asked.0.bound ≡ b

noted : (ms : Made) (m : Key) → IsNoted ms m → Noted ms m (chosen ms m)
unfolding chosen bound_in
noted [] m (x, there, is) = absurd (omega (arith, there.1))
noted (y ∷ ys) m (x, there, is) = go (Key-discrete (bound_key y.1) m) (λ later. noted ys m (x, later, is))
  where
    go : (h : Dec (bound_key y.1 ≡ m)) → (Contains ys x → Noted ys m (chosen ys m)) → Noted (y ∷ ys) m (bound_in h y.0.bound (chosen ys m))
    go (yes e) f = record { asked = y; there = Contains-first y ys; is = e; bound = refl }
    go (no apart) f = elim (Contains-cases x y ys there) [
      | inl same ↦ elim (apart (ap (λ (z : Asked × BoundId). bound_key z.1) same ∙ is)) [ ]
      | inr later ↦ let r = f later in record { asked = r.asked; there = Contains-later r.asked y ys r.there; is = r.is; bound = r.bound }
    ]

-- from c to d, with all that d has more remembered in n
module _ (c d : Collection) (o : Origins) (n : BoundMemo) (grown : Extends c d) (known : IsTrueMemo d n) (made : AreMadeOn c d o (made_of n)) where
  as_bound : (b : Bound) (p : BoundPair) (r : BoundId) → Stands c (first_key p) → Stands c (second_key p) → IsBoundOf b d d p (Some r) → IsBoundAs b c d (first_key p, second_key p) (bound_key r)
  as_bound Meet p r sx sy h =
      λ k. bound_before Fits c d grown (entry_item k (first_key p)) (entry_item k (second_key p)) (entry_item_stands c k (first_key p) sx) (entry_item_stands c k (second_key p) sy) (Some (item_tree d (entry_item k (bound_key r)))) (h k)
  as_bound Join p r sx sy h =
      λ k. bound_before (λ s t. Fits t s) c d grown (entry_item k (first_key p)) (entry_item k (second_key p)) (entry_item_stands c k (first_key p) sx) (entry_item_stands c k (second_key p) sy) (Some (item_tree d (entry_item k (bound_key r)))) (h k)

  added_noted : (m : Key) → IsAdded c d m → Noted (made_of n) m (chosen (made_of n) m)
  added_noted m added = elim (made.all m added.0) [ inl stood ↦ elim (added.1 stood) [ ] | inr here ↦ noted (made_of n) m here ]

  -- the two of its origin are those that it was made for
  made_for : (m : Key) (x : Asked × BoundId) → Contains (made_of n) x → bound_key x.1 ≡ m → o m ≡ (first_key x.0.pair, second_key x.0.pair)
  made_for m x there is = ap o (sym is) ∙ (made.each x there).made.2

  is_bound : (m : Key) → IsAdded c d m → IsBoundAs (chosen (made_of n) m) c d (o m) m
  is_bound m added =
      let x = added_noted m added in
      let on = made.each x.asked x.there in
      let here : IsBoundAs x.asked.0.bound c d (first_key x.asked.0.pair, second_key x.asked.0.pair) (bound_key x.asked.1) = as_bound x.asked.0.bound x.asked.0.pair x.asked.1 on.first on.second (known.made x.asked x.there).bound in
      subst (λ (b : Bound). IsBoundAs b c d (o m) m) x.bound
      (subst (λ (p : Key × Key). IsBoundAs x.asked.0.bound c d p m) (sym (made_for m x.asked x.there x.is))
      (subst (λ (z : Key). IsBoundAs x.asked.0.bound c d (first_key x.asked.0.pair, second_key x.asked.0.pair) z) x.is here))

  one : (m p : Key) → IsAdded c d m → IsAdded c d p → o m ≡ o p → chosen (made_of n) m ≡ chosen (made_of n) p → m ≡ p
  one m p m_added p_added same_origin same_bound =
      let x = added_noted m m_added in
      let y = added_noted p p_added in
      let both : (first_key x.asked.0.pair, second_key x.asked.0.pair) ≡ (first_key y.asked.0.pair, second_key y.asked.0.pair) = sym (made_for m x.asked x.there x.is) ∙ same_origin ∙ made_for p y.asked y.there y.is in
      let pairs : x.asked.0.pair ≡ y.asked.0.pair = pair_same x.asked.0.pair y.asked.0.pair (ap (λ (z : Key × Key). z.0) both) (ap (λ (z : Key × Key). z.1) both) in
      let asked : x.asked.0 ≡ y.asked.0 = asked_same x.asked.0 y.asked.0 (x.bound ∙ same_bound ∙ sym y.bound) pairs in
      let entry : x.asked.1 ≡ y.asked.1 = made_once (made_of n) known.once y.asked.0 x.asked.1 y.asked.1 (subst (λ (a : Asked). Contains (made_of n) (a, x.asked.1)) asked x.there) y.there in
      sym x.is ∙ ap bound_key entry ∙ y.is

  pub ones : AreOnes c d o
  ones = record { bound = chosen (made_of n); is_bound = is_bound; one = one }
