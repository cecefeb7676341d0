-- The tracks of owners.
use Rattle.std.proofs.Common.{◌≡◌, ◌⊎◌, inl, inr, ◌↔◌, ◌+◌, ℕ, suc, zero, List, [], ◌∷◌, ◌++◌, Bool, true, false, Some, take, slice_get, Contains, refl, ap, sym, subst, ◌∙◌, arith, add-one}
use Rattle.std.specs.List.{list_any}
use Rattle.std.proofs.lemmas.List.Elements.{Contains-append_left, Contains-push, Contains-push_cases}
use Rattle.indexmap.specs.IndexSet.{insert_key}
use Rattle.indexmap.proofs.CallerLemmas.{Contains-insert_key}
use Rattle.wac_component.specs.Id.{Id}
use Rattle.wac_component.specs.Collection.{Collection}
use Rattle.wac_component.specs.Entries.{owner_at}
use Rattle.wac_names.specs.Class.{Class, class_eq}
use Rattle.wac_names.proofs.Classes.{classes_decided}
use Rattle.wac_aggregator_alike.specs.Alike.{HaveIdentifiers, IsTrackAmong, track_at}
use Rattle.wac_aggregator_alike.specs.Parts.{IsOwnerAmong, AreTracks}

-- ---- sets of classes

pub same_class : (s t : Class) → class_eq s t ≡ true → s ≡ t
same_class s t h = (classes_decided s t).0 h

inserted_cases : (ts : List Class) (u t : Class) → Contains (insert_key class_eq ts u) t → Contains ts t ⊎ (u ≡ t)
inserted_cases ts u t m = by (list_any (class_eq u) ts) refl
  where
    by : (b : Bool) → list_any (class_eq u) ts ≡ b → Contains ts t ⊎ (u ≡ t)
    by true is = inl (rw is at m)
    by false is = Contains-push_cases ts u t (rw is at m)

inserted_kept : (ts : List Class) (u t : Class) → Contains ts t → Contains (insert_key class_eq ts u) t
inserted_kept ts u t m = by (list_any (class_eq u) ts) refl
  where
    by : (b : Bool) → list_any (class_eq u) ts ≡ b → Contains (insert_key class_eq ts u) t
    by true is = rw is m
    by false is = rw is (Contains-append_left ts (u ∷ []) t m)

-- ---- the owner of one resource

module _ (c : Collection) (r : Id) where
  pub tracks_owned : (o : Id) (u : Class) → owner_at c r ≡ Some o → track_at c o ≡ Some u → (ts : List Class) (t : Class)
      → Contains (insert_key class_eq ts u) t ↔ (Contains ts t ⊎ IsTrackAmong c (λ x. owner_at c r ≡ Some x) t)
  tracks_owned o u owned on ts t = (λ m. forth (inserted_cases ts u t m), back)
    where
      forth : Contains ts t ⊎ (u ≡ t) → Contains ts t ⊎ IsTrackAmong c (λ x. owner_at c r ≡ Some x) t
      forth (inl l) = inl l
      forth (inr e) = inr (o, owned, on ∙ ap Some e)

      one : (x : Id) → owner_at c r ≡ Some x → track_at c x ≡ Some t → u ≡ t
      one x e at = let same : o ≡ x = cc in let here : track_at c o ≡ Some t = subst (λ y. track_at c y ≡ Some t) (sym same) at in cc

      back : Contains ts t ⊎ IsTrackAmong c (λ x. owner_at c r ≡ Some x) t → Contains (insert_key class_eq ts u) t
      back (inl l) = inserted_kept ts u t l
      back (inr x) = subst (Contains (insert_key class_eq ts u)) (one x.0 x.1 x.2) (Contains-insert_key class_eq same_class ts u)

-- ---- the owners of several

take_next : {A : Type 0} (xs : List A) (i : ℕ) (x : A) → slice_get xs i ≡ Some x → take (suc i) xs ≡ take i xs ++ x ∷ []
take_next [] i x at = absurd (cc)
take_next {A} (y ∷ xs) zero x at = let same : y ≡ x = cc in ap (λ (z : A). z ∷ []) same
take_next (y ∷ xs) (suc i) x at = ap (λ ys. y ∷ ys) (take_next xs i x at)

module _ (c : Collection) where
  pub AreTracks-none : AreTracks c [] []
  AreTracks-none = record {
    identified = λ o x. absurd (omega (arith, x.1.1));
    exact = λ t. (λ m. absurd (omega (arith, m.1)), λ x. absurd (omega (arith, x.1.1.1)));
  }

  AreTracks-push : (rs : List Id) (r : Id) (ts ts' : List Class) → AreTracks c rs ts → HaveIdentifiers c (λ o. owner_at c r ≡ Some o)
      → ((t : Class) → Contains ts' t ↔ (Contains ts t ⊎ IsTrackAmong c (λ o. owner_at c r ≡ Some o) t)) → AreTracks c (rs ++ r ∷ []) ts'
  AreTracks-push rs r ts ts' h mine step = record {
    identified = λ o x. elim (Contains-push_cases rs r x.0 x.1) [ inl l ↦ h.identified o (x.0, l, x.2) | inr s ↦ mine o (subst (λ y. owner_at c y ≡ Some o) (sym s) x.2) ];
    exact = λ t. (λ m. forth t ((step t).0 m), λ x. (step t).1 (back t x.0 x.1.0 x.1.2 x.2 (Contains-push_cases rs r x.1.0 x.1.1)));
  }
    where
      forth : (t : Class) → Contains ts t ⊎ IsTrackAmong c (λ o. owner_at c r ≡ Some o) t → IsTrackAmong c (IsOwnerAmong c (rs ++ r ∷ [])) t
      forth t (inl l) = let x = (h.exact t).0 l in (x.0, (x.1.0, Contains-append_left rs (r ∷ []) x.1.0 x.1.1, x.1.2), x.2)
      forth t (inr x) = (x.0, (r, Contains-push rs r, x.1), x.2)

      back : (t : Class) (o q : Id) → owner_at c q ≡ Some o → track_at c o ≡ Some t → Contains rs q ⊎ (r ≡ q) → Contains ts t ⊎ IsTrackAmong c (λ o. owner_at c r ≡ Some o) t
      back t o q e on (inl l) = inl ((h.exact t).1 (o, (q, l, e), on))
      back t o q e on (inr s) = inr (o, subst (λ y. owner_at c y ≡ Some o) (sym s) e, on)

  pub AreTracks-next : (rs : List Id) (i : ℕ) (r : Id) → slice_get rs i ≡ Some r → (ts ts' : List Class) → AreTracks c (take i rs) ts → HaveIdentifiers c (λ o. owner_at c r ≡ Some o)
      → ((t : Class) → Contains ts' t ↔ (Contains ts t ⊎ IsTrackAmong c (λ o. owner_at c r ≡ Some o) t)) → AreTracks c (take (i + 1) rs) ts'
  AreTracks-next rs i r at ts ts' h mine step = rw (add-one, take_next rs i r at) (AreTracks-push (take i rs) r ts ts' h mine step)

  -- where the owner of one has no identifier, not all have
  pub not_all_identified : (rs : List Id) (r : Id) → Contains rs r → (HaveIdentifiers c (λ o. owner_at c r ≡ Some o) → ⊥) → HaveIdentifiers c (IsOwnerAmong c rs) → ⊥
  not_all_identified rs r m none all = none (λ o e. all o (r, m, e))
