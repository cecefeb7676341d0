-- What stands among uses, and in lists of one.
use Rattle.std.proofs.Common.{◌≡◌, ◌++◌, arith, inl, inr, Contains, Bool, true, false, cond, List, [], ◌∷◌, map, Option, Some, String, Global, string_bytes, refl, ap, sym, subst, ◌∙◌}
use Rattle.std.proofs.lemmas.Map.Iter.{rest_so_far, rest_more}
use Rattle.std.proofs.lemmas.Slice.Eq.{bytes_eq-Decides}
use Rattle.std.specs.Iterator.{Yields}
use Rattle.std.specs.Map.{lookup as lookup_by}
use Rattle.std.specs.Map.Iter.{TakesFirst}
use Rattle.std.specs.Str.{bytes_eq}
use Rattle.wac_model.specs.Text.{Text}
use Rattle.wac_component.specs.Collection.{UseContent}
use Rattle.wac_component.specs.Content.{named, use_content}
use Rattle.wac_component.specs.Key.{Key, Each, named_keys, use_keys, interface_key}
use Rattle.wac_component.specs.declared.interfaces.UsedType.{UsedType}
use Rattle.wac_component.proofs.Among.{Contains-first, Contains-later, Contains-cases}

module _ (P : Key → Type 0) where
  -- what is used under a name, and what a `for` over uses yields
  pub each_looked : (test : String Global → Bool) (us : List (String Global × UsedType)) (u : UsedType) → lookup_by test us ≡ Some u → Each P (named_keys use_keys (named use_content us)) → P (interface_key u.interface)
  each_looked test [] u is h = absurd (cc)
  each_looked test (e ∷ us) u is h = at (test e.0) (each_looked test us u) is
    where
      at : (b : Bool) → (lookup_by test us ≡ Some u → Each P (named_keys use_keys (named use_content us)) → P (interface_key u.interface)) → cond b (Some e.1) (lookup_by test us) ≡ Some u → P (interface_key u.interface)
      at true rest k = let same : e.1 ≡ u = cc in subst (λ v. P (interface_key v.interface)) same h.0
      at false rest k = rest k h.1

  pub each_yielded : {A : Type 0} (shows : A → String Global × UsedType) (all : List (String Global × UsedType)) (ys : List A) (s t u : List (String Global × UsedType)) (r : Option A) (x : A)
      → s ≡ all → Yields (TakesFirst shows) s ys t → r ≡ Some x → TakesFirst shows t r u → Each P (named_keys use_keys (named use_content all)) → P (interface_key (shows x).1.interface)
  each_yielded {A} shows all ys s t u r x start y is step h =
      later (map shows ys) (shows x) u (subst (λ l. Each P (named_keys use_keys (named use_content l))) (sym start ∙ rest_so_far shows ys s t y ∙ ap (λ l. map shows ys ++ l) (rest_more shows t u r x is step)) h)
    where
      later : (vs : List (String Global × UsedType)) (e : String Global × UsedType) (us : List (String Global × UsedType)) → Each P (named_keys use_keys (named use_content (vs ++ e ∷ us))) → P (interface_key e.1.interface)
      later [] e us k = k.0
      later (v ∷ vs) e us k = later vs e us k.1

-- the use under a name, and one that a `for` over uses yields, is in the list
pub looked_use : (n : Text) (us : List (String Global × UsedType)) (u : UsedType) → lookup_by (λ (k : String Global). bytes_eq n (string_bytes k)) us ≡ Some u → Contains (named use_content us) (n, use_content u)
looked_use n [] u is = absurd (cc)
looked_use n (e ∷ us) u is = at (bytes_eq n (string_bytes e.0)) refl is (looked_use n us u)
  where
    at : (b : Bool) → bytes_eq n (string_bytes e.0) ≡ b → cond b (Some e.1) (lookup_by (λ (k : String Global). bytes_eq n (string_bytes k)) us) ≡ Some u → (lookup_by (λ (k : String Global). bytes_eq n (string_bytes k)) us ≡ Some u → Contains (named use_content us) (n, use_content u)) → Contains (named use_content (e ∷ us)) (n, use_content u)
    at true same k rest =
        let value : e.1 ≡ u = cc in
        let name : n ≡ string_bytes e.0 = (bytes_eq-Decides n (string_bytes e.0)).0 same in
        subst (λ (p : Text × UseContent). Contains (named use_content (e ∷ us)) p) (λ i. (sym name i, use_content (value i))) (Contains-first (string_bytes e.0, use_content e.1) (named use_content us))
    at false same k rest = Contains-later (n, use_content u) (string_bytes e.0, use_content e.1) (named use_content us) (rest k)

pub yielded_use : {A : Type 0} (shows : A → String Global × UsedType) (all : List (String Global × UsedType)) (ys : List A) (s t u : List (String Global × UsedType)) (r : Option A) (x : A) → s ≡ all → Yields (TakesFirst shows) s ys t → r ≡ Some x → TakesFirst shows t r u
    → Contains (named use_content all) (string_bytes (shows x).0, use_content (shows x).1)
yielded_use {A} shows all ys s t u r x start y is step =
    subst (λ l. Contains (named use_content l) (string_bytes (shows x).0, use_content (shows x).1)) (sym (sym start ∙ rest_so_far shows ys s t y ∙ ap (λ l. map shows ys ++ l) (rest_more shows t u r x is step)))
    (later (map shows ys) (shows x) u)
  where
    later : (vs : List (String Global × UsedType)) (e : String Global × UsedType) (us : List (String Global × UsedType)) → Contains (named use_content (vs ++ e ∷ us)) (string_bytes e.0, use_content e.1)
    later [] e us = Contains-first (string_bytes e.0, use_content e.1) (named use_content us)
    later (v ∷ vs) e us = Contains-later (string_bytes e.0, use_content e.1) (string_bytes v.0, use_content v.1) (named use_content (vs ++ e ∷ us)) (later vs e us)

-- the one of a list of one is in a list that has it
pub one_in : {X : Type 0} (x : X) (xs : List X) → Contains xs x → (p : X) → Contains (x ∷ []) p → Contains xs p
one_in x xs m p one = elim (Contains-cases p x [] one) [ inl same ↦ subst (Contains xs) same m | inr none ↦ absurd (omega (arith, none.1)) ]

-- what is in a list of one is that one
pub one_alone : {X : Type 0} (x y : X) → Contains (x ∷ []) y → y ≡ x
one_alone x y m = elim (Contains-cases y x [] m) [ inl same ↦ sym same | inr none ↦ absurd (omega (arith, none.1)) ]
