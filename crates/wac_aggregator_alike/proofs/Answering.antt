-- What is answered of two types.
use Rattle.std.proofs.Common.{◌≡◌, ◌⊎◌, inl, inr, ◌↔◌, List, [], ◌∷◌, Bool, true, false, not, cond, filter, Option, Some, is_some, Contains, refl, sym, subst, ◌∙◌, arith}
use Rattle.std.specs.HashSet.{HashSet, contains, hash_set_eq, IsSameSet}
use Rattle.std.proofs.lemmas.Map.Lookups.{hash_set_eq_decides}
use Rattle.std.proofs.lemmas.Map.Views.{hash_set_contains_iff}
use Rattle.wac_component.specs.Id.{Id}
use Rattle.wac_component.specs.Collection.{Collection}
use Rattle.wac_component.specs.Entries.{owner_at}
use Rattle.wac_component.specs.Key.{Key, resource_key, Stands}
use Rattle.wac_component.specs.Sound.{IsSound}
use Rattle.wac_component.proofs.Among.{Contains-first, Contains-later, Contains-cases}
use Rattle.wac_names.specs.Class.{Class, class_eq}
use Rattle.wac_names.specs.ClassLaws.{class_eq_equiv}
use Rattle.wac_aggregator_alike.specs.Alike.{AreResourcesOf, AreOwnedIn, HaveIdentifiers, AreOwnersIdentified, IsOwnerTrack, AreOfOneTree, AreTypesAlike}
use Rattle.wac_aggregator_alike.specs.Parts.{AllStandIn, IsOwnerAmong, AreTracks}
use Rattle.wac_aggregator_alike.proofs.MadeOf.{made_stands}
use Rattle.wac_aggregator_alike.proofs.Tracks.{same_class}

-- ---- lists that a test leaves

filter_from : {A : Type 0} (p : A → Bool) (xs : List A) (x : A) → Contains (filter p xs) x → Contains xs x × (p x ≡ true)
filter_from p [] x m = absurd (omega (arith, m.1))
filter_from {A} p (y ∷ xs) x m = by (λ n. filter_from p xs x n) (p y) refl m
  where
    later : Contains xs x × (p x ≡ true) → Contains (y ∷ xs) x × (p x ≡ true)
    later h = (Contains-later x y xs h.0, h.1)

    by : (Contains (filter p xs) x → Contains xs x × (p x ≡ true)) → (b : Bool) → p y ≡ b → Contains (cond b (y ∷ filter p xs) (filter p xs)) x → Contains (y ∷ xs) x × (p x ≡ true)
    by onward true is n = elim (Contains-cases x y (filter p xs) n) [
      | inl same ↦ subst (λ (z : A). Contains (y ∷ xs) z × (p z ≡ true)) same (Contains-first y xs, is)
      | inr l ↦ later (onward l)
    ]
    by onward false is n = later (onward n)

-- what passes a test is left by it
pub filter_to : {A : Type 0} (p : A → Bool) (xs : List A) (x : A) → Contains xs x → p x ≡ true → Contains (filter p xs) x
filter_to p [] x m is = absurd (omega (arith, m.1))
filter_to {A} p (y ∷ xs) x m is = by (λ l. filter_to p xs x l is) (p y) refl (Contains-cases x y xs m)
  where
    by : (Contains xs x → Contains (filter p xs) x) → (b : Bool) → p y ≡ b → (y ≡ x) ⊎ Contains xs x → Contains (cond b (y ∷ filter p xs) (filter p xs)) x
    by onward true at (inl same) = subst (λ (z : A). Contains (y ∷ filter p xs) z) same (Contains-first y (filter p xs))
    by onward true at (inr l) = Contains-later x y (filter p xs) (onward l)
    by onward false at (inl same) = absurd (let e : p y ≡ true = subst (λ (z : A). p z ≡ true) (sym same) is in cc)
    by onward false at (inr l) = onward l

is_there : {A : Type 0} (o : Option A) (x : A) → o ≡ Some x → is_some o ≡ true
is_there o x e = rw e refl

-- ---- the resources that a type is made of

module _ (c : Collection) (k : Key) (rs : List Id) (are : AreResourcesOf c k rs) where
  pub all_stand : IsSound c → Stands c k → AllStandIn c rs
  all_stand s st r m = made_stands c s k (resource_key r) st ((are r).0 m)

  pub owned_in : AreOwnedIn c k (filter (λ r. is_some (owner_at c r)) rs)
  owned_in = record {
    each = λ r m. let found = filter_from (λ r. is_some (owner_at c r)) rs r m in ((are r).0 found.0, found.1);
    every = λ r o w e. filter_to (λ r. is_some (owner_at c r)) rs r ((are r).1 w) (is_there (owner_at c r) o e);
  }

  pub identified_in : HaveIdentifiers c (IsOwnerAmong c rs) → AreOwnersIdentified c k
  identified_in h o x = h o (x.0, (are x.0).1 x.1, x.2)

  pub identified_among : AreOwnersIdentified c k → HaveIdentifiers c (IsOwnerAmong c rs)
  identified_among h o x = h o (x.0, (are x.0).0 x.1, x.2)

  pub tracks_in : (ts : List Class) → AreTracks c rs ts → (t : Class) → Contains ts t ↔ IsOwnerTrack c k t
  tracks_in ts h t = (λ m. let x = (h.exact t).0 m in (x.0, (x.1.0, (are x.1.0).0 x.1.1, x.1.2), x.2), λ x. (h.exact t).1 (x.0, (x.1.0, (are x.1.0).1 x.1.1, x.1.2), x.2))

-- ---- sets of tracks

module _ {S : Type 0} (s t : HashSet Class S) where
  -- equal sets have the same classes
  pub equal_sets : hash_set_eq class_eq s t ≡ true → (u : Class) → Contains s.keys u ↔ Contains t.keys u
  equal_sets is u = (λ m. (hash_set_contains_iff class_eq_equiv same_class t u).0 (sym (same u) ∙ (hash_set_contains_iff class_eq_equiv same_class s u).1 m), λ m. (hash_set_contains_iff class_eq_equiv same_class s u).0 (same u ∙ (hash_set_contains_iff class_eq_equiv same_class t u).1 m))
    where
      same : IsSameSet class_eq s t
      same = (hash_set_eq_decides class_eq_equiv s t).0 is

  -- and so do no others
  pub sets_of_same : ((u : Class) → Contains s.keys u ↔ Contains t.keys u) → hash_set_eq class_eq s t ≡ true
  sets_of_same h = (hash_set_eq_decides class_eq_equiv s t).1 same
    where
      both : (a b : Bool) → (a ≡ true → b ≡ true) → (b ≡ true → a ≡ true) → a ≡ b
      both true true p q = refl
      both true false p q = sym (p refl)
      both false true p q = q refl
      both false false p q = refl

      same : IsSameSet class_eq s t
      same u = both (contains class_eq s u) (contains class_eq t u)
          (λ e. (hash_set_contains_iff class_eq_equiv same_class t u).1 ((h u).0 ((hash_set_contains_iff class_eq_equiv same_class s u).0 e)))
          (λ e. (hash_set_contains_iff class_eq_equiv same_class s u).1 ((h u).1 ((hash_set_contains_iff class_eq_equiv same_class t u).0 e)))

-- ---- two types

not_false : (b : Bool) → not b ≡ false → b ≡ true
not_false true h = refl
not_false false h = sym h

not_true : (b : Bool) → not b ≡ true → b ≡ false
not_true true h = sym h
not_true false h = refl

-- where the owners of one side aren't identified they are not alike
pub not_ours : (c f : Collection) (a b : Key) (rs : List Id) → AreResourcesOf c a rs → (HaveIdentifiers c (IsOwnerAmong c rs) → ⊥) → ¬ AreTypesAlike c f a b
not_ours c f a b rs are none h = none (identified_among c a rs are h.ours)

pub not_theirs : (c f : Collection) (a b : Key) (qs : List Id) → AreResourcesOf f b qs → (HaveIdentifiers f (IsOwnerAmong f qs) → ⊥) → ¬ AreTypesAlike c f a b
not_theirs c f a b qs are none h = none (identified_among f b qs are h.theirs)

module _ {S : Type 0} (c f : Collection) (a b : Key) (rs qs : List Id) (ours : AreResourcesOf c a rs) (theirs : AreResourcesOf f b qs) (s t : HashSet Class S) (x : AreTracks c rs s.keys) (y : AreTracks f qs t.keys) where
  pub are_alike : AreOfOneTree c f a b → not (hash_set_eq class_eq s t) ≡ false → AreTypesAlike c f a b
  are_alike same isnt = let is = not_false (hash_set_eq class_eq s t) isnt in record {
    same = same;
    ours = identified_in c a rs ours x.identified;
    theirs = identified_in f b qs theirs y.identified;
    tracks = λ u. (λ m. (tracks_in f b qs theirs t.keys y u).0 ((equal_sets s t is u).0 ((tracks_in c a rs ours s.keys x u).1 m)), λ m. (tracks_in c a rs ours s.keys x u).0 ((equal_sets s t is u).1 ((tracks_in f b qs theirs t.keys y u).1 m)));
  }

  pub are_not_alike : not (hash_set_eq class_eq s t) ≡ true → ¬ AreTypesAlike c f a b
  are_not_alike differ h = let eq = sets_of_same s t same in let is = not_true (hash_set_eq class_eq s t) differ in absurd (cc)
    where
      same : (u : Class) → Contains s.keys u ↔ Contains t.keys u
      same u = (λ m. (tracks_in f b qs theirs t.keys y u).1 ((h.tracks u).0 ((tracks_in c a rs ours s.keys x u).0 m)), λ m. (tracks_in c a rs ours s.keys x u).1 ((h.tracks u).1 ((tracks_in f b qs theirs t.keys y u).0 m)))
