-- Lists of pairs of a text and a value, and the lists of definitions that stand for them.
use Rattle.std.proofs.Common.{◌≡◌, ◌≢◌, ◌⊎◌, ℕ, Bool, true, false, cond, List, [], ◌∷◌, Option, Some, None, refl, sym, ap, subst, ◌∙◌, inl, inr}
use Rattle.std.proofs.lemmas.Bool.{cases_Bool}
use Rattle.std.proofs.lemmas.Map.Keys.{IsDistinct-head, IsDistinct-tail, IsDistinct-cons}
use Rattle.std.specs.Cmp.{IsEquivalence, both_ways}
use Rattle.std.specs.Cmp.Lexicographic.{bytes_decides, nat_list_eq_equiv}
use Rattle.std.specs.List.{AllByRecursion, AllZip, IsDistinct}
use Rattle.std.specs.Map.{keys_of, lookup}
use Rattle.std.specs.Prelude.{IsSome}
use Rattle.std.specs.Str.{bytes_eq}
use Rattle.indexmap.specs.IndexMap.{insert_entry}
use Rattle.wac_names.specs.Interner.{Interning, IsLawful}
use Rattle.wac_names.specs.NameMap.{value_with_key}
use Rattle.wac_names.specs.Pairs.{HasDistinctTexts, HasText, value_at, with_pair}

pub bytes_refl : (s : List ℕ) → bytes_eq s s ≡ true
bytes_refl s = (bytes_decides s s).1 refl

pub differs : (s t : List ℕ) → s ≢ t → bytes_eq s t ≡ false
differs s t ne = elim (cases_Bool (bytes_eq s t)) [
  | inl e ↦ absurd (ne ((bytes_decides s t).0 e))
  | inr f ↦ f
]

module _ {V : Type 0} where
  -- the value at a text after a change
  pub value_put : (ps : List (List ℕ × V)) (name s : List ℕ) (v : V) → value_at (with_pair ps name v) s ≡ cond (bytes_eq name s) (Some v) (value_at ps s)
  value_put [] name s v = ap (λ (b : Bool). cond b (Some v) None) (nat_list_eq_equiv.symm s name)
  value_put (p ∷ ps) name s v = elim (cases_Bool (bytes_eq name p.0)) [
    | inl e ↦
        let same = (bytes_decides name p.0).0 e in
        let flip : bytes_eq s p.0 ≡ bytes_eq name s = ap (λ (t : List ℕ). bytes_eq s t) (sym same) ∙ nat_list_eq_equiv.symm s name in
        rw e (rw flip (overwritten (bytes_eq name s) v p.1 (value_at ps s)))
    | inr f ↦ rw f (rw (value_put ps name s v) (passed name s p.0 v p.1 (value_at ps s) f))
  ] where
    overwritten : (b : Bool) (v w : V) (o : Option V) → cond b (Some v) o ≡ cond b (Some v) (cond b (Some w) o)
    overwritten true v w o = refl
    overwritten false v w o = refl

    passed : (name s t : List ℕ) (v w : V) (o : Option V) → bytes_eq name t ≡ false
        → cond (bytes_eq s t) (Some w) (cond (bytes_eq name s) (Some v) o) ≡ cond (bytes_eq name s) (Some v) (cond (bytes_eq s t) (Some w) o)
    passed name s t v w o f = elim (cases_Bool (bytes_eq name s)) [
      | inl e ↦
          let same = (bytes_decides name s).0 e in
          let g : bytes_eq s t ≡ false = ap (λ (u : List ℕ). bytes_eq u t) (sym same) ∙ f in
          rw (e, g) refl
      | inr g ↦ rw g refl
    ]

  -- the texts after a change
  pub has_put : (ps : List (List ℕ × V)) (name s : List ℕ) (v : V) → HasText (with_pair ps name v) s → (s ≡ name) ⊎ HasText ps s
  has_put ps name s v h = elim (cases_Bool (bytes_eq name s)) [
    | inl e ↦ inl (sym ((bytes_decides name s).0 e))
    | inr f ↦ inr (subst (λ (o : Option V). IsSome o) (value_put ps name s v ∙ ap (λ (b : Bool). cond b (Some v) (value_at ps s)) f) h)
  ]

  pub has_put_here : (ps : List (List ℕ × V)) (name : List ℕ) (v : V) → HasText (with_pair ps name v) name
  has_put_here ps name v = subst (λ (o : Option V). IsSome o) (sym (value_put ps name name v ∙ ap (λ (b : Bool). cond b (Some v) (value_at ps name)) (bytes_refl name))) refl

  pub has_put_kept : (ps : List (List ℕ × V)) (name s : List ℕ) (v : V) → HasText ps s → HasText (with_pair ps name v) s
  has_put_kept ps name s v h = subst (λ (o : Option V). IsSome o) (sym (value_put ps name s v)) (kept (bytes_eq name s) v (value_at ps s) h) where
    kept : (b : Bool) (v : V) (o : Option V) → IsSome o → IsSome (cond b (Some v) o)
    kept true v o h = refl
    kept false v o h = h

  all_put : (ps : List (List ℕ × V)) (t name : List ℕ) (v : V) → AllByRecursion (λ y. bytes_eq t y ≡ false) (keys_of ps) → bytes_eq t name ≡ false
      → AllByRecursion (λ y. bytes_eq t y ≡ false) (keys_of (with_pair ps name v))
  all_put [] t name v a f = (f, a)
  all_put (p ∷ ps) t name v a f = elim (cases_Bool (bytes_eq name p.0)) [
    | inl e ↦ rw e a
    | inr g ↦ rw g (a.0, all_put ps t name v a.1 f)
  ]

  pub distinct_put : (ps : List (List ℕ × V)) (name : List ℕ) (v : V) → HasDistinctTexts ps → HasDistinctTexts (with_pair ps name v)
  distinct_put [] name v h = IsDistinct-cons bytes_eq name [] tt h
  distinct_put (p ∷ ps) name v h = elim (cases_Bool (bytes_eq name p.0)) [
    | inl e ↦ rw e h
    | inr g ↦
        let far = all_put ps p.0 name v (IsDistinct-head bytes_eq p.0 (keys_of ps) h) (nat_list_eq_equiv.symm p.0 name ∙ g) in
        rw g (IsDistinct-cons bytes_eq p.0 _ far (distinct_put ps name v (IsDistinct-tail bytes_eq p.0 (keys_of ps) h)))
  ]

module _ {K : Type 0} {eq : K → K → Bool} {f : Interning K} (law : IsLawful eq f) where
  -- two keys are equal just where their texts are
  pub tests_agree : (s t : List ℕ) (j k : K) → f s j ≡ true → f t k ≡ true → eq j k ≡ bytes_eq s t
  tests_agree s t j k p q = both_ways (eq j k) (bytes_eq s t)
      (λ e. (bytes_decides s t).1 (law.tells_texts s t j k p q e))
      (λ e. law.one_key t j k (subst (λ (u : List ℕ). f u j ≡ true) ((bytes_decides s t).0 e) p) q)

module _ {K V : Type 0} {eq : K → K → Bool} {f : Interning K} (law : IsLawful eq f) where
  -- a definition is that of a pair
  abbrev pub IsDefinition : K × V → List ℕ × V → Type 0
  IsDefinition e p = (f p.0 e.0 ≡ true) × (e.1 ≡ p.1)

  -- a look-up by a text's key finds the value at the text
  pub lookup_agrees : (es : List (K × V)) (ps : List (List ℕ × V)) (name : List ℕ) (k : K) → AllZip IsDefinition es ps → f name k ≡ true
      → lookup (eq k) es ≡ value_at ps name
  lookup_agrees [] [] name k a h = refl
  lookup_agrees [] (p ∷ ps) name k a h = absurd a
  lookup_agrees (e ∷ es) [] name k a h = absurd a
  lookup_agrees (e ∷ es) (p ∷ ps) name k a h =
      rw (tests_agree law name p.0 k e.0 h a.0.0, a.0.1, lookup_agrees es ps name k a.1 h) refl

  -- a look-up by any key finds the value of the pair whose text has it
  pub lookup_with_key : IsEquivalence eq → (es : List (K × V)) (ps : List (List ℕ × V)) (k : K) → AllZip IsDefinition es ps
      → lookup (eq k) es ≡ value_with_key f ps k
  lookup_with_key same [] [] k a = refl
  lookup_with_key same [] (p ∷ ps) k a = absurd a
  lookup_with_key same (e ∷ es) [] k a = absurd a
  lookup_with_key same (e ∷ es) (p ∷ ps) k a =
      let agrees : eq k e.0 ≡ f p.0 k = both_ways (eq k e.0) (f p.0 k)
      (λ h. law.same_key p.0 e.0 k a.0.0 (sym (same.symm k e.0) ∙ h))
      (λ h. law.one_key p.0 k e.0 h a.0.0) in
      rw (agrees, a.0.1, lookup_with_key same es ps k a.1) refl

  -- the definitions after a change
  pub insert_agrees : (es : List (K × V)) (ps : List (List ℕ × V)) (name : List ℕ) (k : K) (v : V) → AllZip IsDefinition es ps → f name k ≡ true
      → AllZip IsDefinition (insert_entry eq es k v) (with_pair ps name v)
  insert_agrees [] [] name k v a h = ((h, refl), tt)
  insert_agrees [] (p ∷ ps) name k v a h = absurd a
  insert_agrees (e ∷ es) [] name k v a h = absurd a
  insert_agrees (e ∷ es) (p ∷ ps) name k v a h =
      let t = tests_agree law name p.0 k e.0 h a.0.0 in
      elim (cases_Bool (bytes_eq name p.0)) [
        | inl b ↦ rw (t, b) ((a.0.0, refl), a.1)
        | inr b ↦ rw (t, b) (a.0, insert_agrees es ps name k v a.1 h)
      ]

pub distinct_nil : (V : Type 0) → HasDistinctTexts {V = V} []
unfolding IsDistinct
distinct_nil V = tt
