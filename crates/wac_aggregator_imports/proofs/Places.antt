-- Imports in places, found by the index that has the place of each class.
use Rattle.std.proofs.Common.{◌≡◌, ◌≢◌, ◌⊎◌, inl, inr, ℕ, zero, suc, ◌+◌, ◌<◌, ◌≤◌, Bool, true, false, cond, List, [], ◌∷◌, ◌++◌, length, set, Option, Some, None, refl, ap, sym, ◌∙◌, subst, arith, MutBor, IsSome}
use Rattle.std.proofs.lemmas.List.{get_or-set_same, get_or-set_other, get_or_past, length-set, length-append}
use Rattle.std.proofs.Math.Seq.{set-append_seam}
use Rattle.std.proofs.lemmas.Bool.{cases_eq, cases_lt}
use Rattle.std.proofs.lemmas.Map.Keys.{IsDistinct-cons}
use Rattle.std.specs.List.{AllByRecursion, IsDistinct}
use Rattle.std.specs.Map.{lookup, update, keys_of}
use Rattle.std.specs.Option.{option_and_then, option_copied_mut, MatchOption}
use Rattle.indexmap.specs.IndexMap.{insert_entry}
use Rattle.wac_names.specs.Class.{Class, class_eq, class_of}
use Rattle.wac_names.proofs.Classes.{classes_decided}
use Rattle.wac_model.specs.Text.{Text}
use Rattle.wac_aggregator_imports.specs.Import.{ImportContent, ImportsContent, AreFiled, PutsImport}
use Rattle.wac_aggregator_imports.proofs.Filed.{AreFiled-put, same_class, some_of}
use Rattle.wac_aggregator_imports.specs.Places.{imports_in, import_in, ArePlaced}

abbrev ImportPlaces : Type 0
ImportPlaces = List (Option ImportContent)

abbrev Index : Type 0
Index = List (Class × ℕ)

abbrev class_at : Index → Class → Option ℕ
class_at index c = lookup (class_eq c) index

is_class : (c d : Class) → c ≡ d → class_eq c d ≡ true
is_class c d h = (classes_decided c d).1 h

-- ---- a list of places

-- no two places have imports of one class
abbrev ArePlacesApart : ImportPlaces → Type 0
ArePlacesApart ps = (j k : ℕ) (i e : ImportContent) → import_in ps j ≡ Some i → import_in ps k ≡ Some e → class_of i.0 ≡ class_of e.0 → j ≡ k

apart_later : (o : Option ImportContent) (ps : ImportPlaces) → ArePlacesApart (o ∷ ps) → ArePlacesApart ps
apart_later o ps apart j k i e p q same = let next : suc j ≡ suc k = apart (suc j) (suc k) i e p q same in omega arith

-- an import in a place is found by its class
found : (ps : ImportPlaces) (k : ℕ) (i : ImportContent) → ArePlacesApart ps → import_in ps k ≡ Some i → lookup (class_eq (class_of i.0)) (imports_in ps) ≡ Some i
found [] k i apart h = absurd (cc)
found (None ∷ ps) zero i apart h = absurd (cc)
found (None ∷ ps) (suc k) i apart h = found ps k i (apart_later None ps apart) h
found (Some e ∷ ps) zero i apart h =
    let same : e ≡ i = cc in
    ap (λ b. cond b (Some e) (lookup (class_eq (class_of i.0)) (imports_in ps))) (is_class _ _ (ap (λ (x : ImportContent). class_of x.0) (sym same))) ∙ ap (λ (x : ImportContent). Some x) same
found (Some e ∷ ps) (suc k) i apart h = at (class_eq (class_of i.0) (class_of e.0)) refl (found ps k i (apart_later (Some e) ps apart) h)
  where
    at : (b : Bool) → class_eq (class_of i.0) (class_of e.0) ≡ b → lookup (class_eq (class_of i.0)) (imports_in ps) ≡ Some i → cond b (Some e) (lookup (class_eq (class_of i.0)) (imports_in ps)) ≡ Some i
    at true p rest = absurd (let no : suc k ≡ zero = apart (suc k) zero i e h refl (same_class _ _ p) in omega arith)
    at false p rest = rest

-- what is found by a class stands in a place
place_of : (ps : ImportPlaces) (c : Class) (i : ImportContent) → lookup (class_eq c) (imports_in ps) ≡ Some i → (k : ℕ) × (import_in ps k ≡ Some i) × (class_of i.0 ≡ c)
place_of [] c i h = absurd (cc)
place_of (None ∷ ps) c i h = let r = place_of ps c i h in (suc r.0, r.1, r.2)
place_of (Some e ∷ ps) c i h = at (class_eq c (class_of e.0)) refl h (place_of ps c i)
  where
    at : (b : Bool) → class_eq c (class_of e.0) ≡ b → cond b (Some e) (lookup (class_eq c) (imports_in ps)) ≡ Some i → (lookup (class_eq c) (imports_in ps) ≡ Some i → (k : ℕ) × (import_in ps k ≡ Some i) × (class_of i.0 ≡ c))
        → (k : ℕ) × (import_in (Some e ∷ ps) k ≡ Some i) × (class_of i.0 ≡ c)
    at true p k rest = let same : e ≡ i = cc in (zero, ap (λ (x : ImportContent). Some x) same, ap (λ (x : ImportContent). class_of x.0) (sym same) ∙ sym (same_class _ _ p))
    at false p k rest = let r = rest k in (suc r.0, r.1, r.2)

-- where no place has an import of a class, the class is none of theirs
none_of : (c : Class) (ps : ImportPlaces) → ((k : ℕ) (i : ImportContent) → import_in ps k ≡ Some i → class_eq c (class_of i.0) ≡ false) → AllByRecursion (λ d. class_eq c d ≡ false) (keys_of (imports_in ps))
none_of c [] h = tt
none_of c (None ∷ ps) h = none_of c ps (λ k i p. h (suc k) i p)
none_of c (Some e ∷ ps) h = (h zero e refl, none_of c ps (λ k i p. h (suc k) i p))

-- the classes of imports in places are distinct
distinct : (ps : ImportPlaces) → ArePlacesApart ps → IsDistinct class_eq (keys_of (imports_in ps))
unfolding IsDistinct
distinct [] apart = tt
distinct (None ∷ ps) apart = distinct ps (apart_later None ps apart)
distinct (Some e ∷ ps) apart = IsDistinct-cons class_eq (class_of e.0) (keys_of (imports_in ps)) (none_of (class_of e.0) ps other) (distinct ps (apart_later (Some e) ps apart))
  where
    other : (k : ℕ) (i : ImportContent) → import_in ps k ≡ Some i → class_eq (class_of e.0) (class_of i.0) ≡ false
    other k i h = at (class_eq (class_of e.0) (class_of i.0)) refl
      where
        at : (b : Bool) → class_eq (class_of e.0) (class_of i.0) ≡ b → b ≡ false
        at true p = absurd (let no : zero ≡ suc k = apart zero (suc k) e i refl h (same_class _ _ p) in omega arith)
        at false p = refl

-- ---- places with an index

module _ (ps : ImportPlaces) (index : Index) (placed : ArePlaced ps index) where
  apart : ArePlacesApart ps
  apart j k i e p q same =
      let both : Some j ≡ Some k = sym (placed.indexed j i p) ∙ ap (class_at index) same ∙ placed.indexed k e q in
      cc

  pub IsDistinct-imports_in : IsDistinct class_eq (keys_of (imports_in ps))
  IsDistinct-imports_in = distinct ps apart

  -- the import of a class stands in the place that the index has
  pub lookup-imports_in : (c : Class) → lookup (class_eq c) (imports_in ps) ≡ option_and_then (import_in ps) (class_at index c)
  lookup-imports_in c = at (class_at index c) refl
    where
      at : (o : Option ℕ) → class_at index c ≡ o → lookup (class_eq c) (imports_in ps) ≡ option_and_then (import_in ps) o
      at (Some k) h =
          let p = placed.placed c k h in
          ap (λ d. lookup (class_eq d) (imports_in ps)) (sym p.2) ∙ found ps k p.0 apart p.1 ∙ sym p.1
      at None h = none (lookup (class_eq c) (imports_in ps)) refl
        where
          none : (x : Option ImportContent) → lookup (class_eq c) (imports_in ps) ≡ x → x ≡ None
          none None q = refl
          none (Some i) q =
              let p = place_of ps c i q in
              let no : None ≡ Some p.0 = sym h ∙ ap (class_at index) (sym p.2) ∙ placed.indexed p.0 i p.1 in
              absurd (cc)

  pub unplaced : (c : Class) → lookup (class_eq c) (imports_in ps) ≡ None → class_at index c ≡ None
  unplaced c none = at (class_at index c) refl
    where
      at : (o : Option ℕ) → class_at index c ≡ o → o ≡ None
      at None h = refl
      at (Some k) h =
          let p = placed.placed c k h in
          let no : None ≡ Some p.0 = sym none ∙ lookup-imports_in c ∙ ap (option_and_then (import_in ps)) h ∙ p.1 in
          absurd (cc)

  -- the place of a class is one of these
  pub within : (c : Class) (k : ℕ) → class_at index c ≡ Some k → k < length ps
  within c k h = at (cases_lt k (length ps))
    where
      at : (k < length ps) ⊎ (length ps ≤ k) → k < length ps
      at (inl l) = l
      at (inr l) = let p = placed.placed c k h in let no : None ≡ Some p.0 = sym (get_or_past ps k None l) ∙ p.1 in absurd (cc)

  -- an import is put in a place that is its class's or empty; the class's other place is empty then
  module _ (qs : ImportPlaces) (later : Index) (c : Class) (n : ℕ) (i : ImportContent)
      (of : class_of i.0 ≡ c)
      (free : (e : ImportContent) → import_in ps n ≡ Some e → class_of e.0 ≡ c)
      (here : import_in qs n ≡ Some i)
      (left : (k : ℕ) → k ≢ n → class_at index c ≡ Some k → import_in qs k ≡ None)
      (kept : (k : ℕ) → k ≢ n → class_at index c ≢ Some k → import_in qs k ≡ import_in ps k)
      (noted : (q : Class) → class_at later q ≡ update class_eq (class_at index) c (Some n) q) where
    noted_here : class_at later c ≡ Some n
    noted_here = noted c ∙ ap (λ b. cond b (Some n) (class_at index c)) (is_class c c refl)

    noted_other : (q : Class) → c ≢ q → class_at later q ≡ class_at index q
    noted_other q ne = at (class_eq c q) refl (noted q)
      where
        at : (b : Bool) → class_eq c q ≡ b → class_at later q ≡ cond b (Some n) (class_at index q) → class_at later q ≡ class_at index q
        at true p h = absurd (ne (same_class c q p))
        at false p h = h

    -- the place of another class is as it was
    other : (q : Class) (k : ℕ) → c ≢ q → class_at index q ≡ Some k → import_in qs k ≡ import_in ps k
    other q k ne h =
        let p = placed.placed q k h in
        kept k
        (λ e. ne (sym (free p.0 (ap (import_in ps) (sym e) ∙ p.1)) ∙ p.2))
        (λ e. let r = placed.placed c k e in let same : r.0 ≡ p.0 = cc (sym r.1 ∙ p.1) in ne (sym r.2 ∙ ap (λ (x : ImportContent). class_of x.0) same ∙ p.2))

    pub ArePlaced-put : ArePlaced qs later
    ArePlaced-put = record { placed = stands; indexed = indexed }
      where
        stands : (q : Class) (k : ℕ) → class_at later q ≡ Some k → (e : ImportContent) × (import_in qs k ≡ Some e) × (class_of e.0 ≡ q)
        stands q k h = at (class_eq c q) refl
          where
            at : (b : Bool) → class_eq c q ≡ b → (e : ImportContent) × (import_in qs k ≡ Some e) × (class_of e.0 ≡ q)
            at true p =
                let same = same_class c q p in
                let place : n ≡ k = cc (sym noted_here ∙ ap (class_at later) same ∙ h) in
                (i, ap (import_in qs) (sym place) ∙ here, of ∙ same)
            at false p =
                let ne : c ≢ q = λ e. absurd (let is : class_eq c q ≡ true = is_class c q e in cc) in
                let was : class_at index q ≡ Some k = sym (noted_other q ne) ∙ h in
                let r = placed.placed q k was in
                (r.0, other q k ne was ∙ r.1, r.2)

        indexed : (k : ℕ) (e : ImportContent) → import_in qs k ≡ Some e → class_at later (class_of e.0) ≡ Some k
        indexed k e h = at (cases_eq k n)
          where
            at : (k ≡ n) ⊎ (k ≢ n) → class_at later (class_of e.0) ≡ Some k
            at (inl same) =
                let is : e ≡ i = cc (sym h ∙ ap (import_in qs) same ∙ here) in
                ap (λ (x : ImportContent). class_at later (class_of x.0)) is ∙ ap (class_at later) of ∙ noted_here ∙ ap (λ (m : ℕ). Some m) (sym same)
            at (inr ne) =
                let still : class_at index c ≢ Some k = λ p. absurd (let no : None ≡ Some e = sym (left k ne p) ∙ h in cc) in
                let was : class_at index (class_of e.0) ≡ Some k = placed.indexed k e (sym (kept k ne still) ∙ h) in
                noted_other (class_of e.0) (λ p. still (ap (class_at index) p ∙ was)) ∙ was

    import_in-put : (q : Class) → option_and_then (import_in qs) (class_at later q) ≡ cond (class_eq c q) (Some i) (option_and_then (import_in ps) (class_at index q))
    import_in-put q = at (class_eq c q) refl
      where
        at : (b : Bool) → class_eq c q ≡ b → option_and_then (import_in qs) (class_at later q) ≡ cond b (Some i) (option_and_then (import_in ps) (class_at index q))
        at true p = ap (λ d. option_and_then (import_in qs) (class_at later d)) (sym (same_class c q p)) ∙ ap (option_and_then (import_in qs)) noted_here ∙ here
        at false p =
            let ne : c ≢ q = λ e. absurd (let is : class_eq c q ≡ true = is_class c q e in cc) in
            ap (option_and_then (import_in qs)) (noted_other q ne) ∙ by (class_at index q) refl ne
          where
            by : (o : Option ℕ) → class_at index q ≡ o → c ≢ q → option_and_then (import_in qs) o ≡ option_and_then (import_in ps) o
            by None h ne = refl
            by (Some k) h ne = other q k ne h

-- what is found by a class, once an import was put in a place
lookup-imports_in-put : (ps qs : ImportPlaces) (index later : Index) → ArePlaced ps index → ArePlaced qs later → (c : Class) (i : ImportContent)
    → ((q : Class) → option_and_then (import_in qs) (class_at later q) ≡ cond (class_eq c q) (Some i) (option_and_then (import_in ps) (class_at index q)))
    → (q : Class) → lookup (class_eq q) (imports_in qs) ≡ update class_eq (λ d. lookup (class_eq d) (imports_in ps)) c (Some i) q
lookup-imports_in-put ps qs index later before now c i h q = lookup-imports_in qs later now q ∙ h q ∙ ap (λ o. cond (class_eq c q) (Some i) o) (sym (lookup-imports_in ps index before q))

-- ---- an empty place more

import_in-push : (ps : ImportPlaces) (k : ℕ) → import_in (ps ++ None ∷ []) k ≡ import_in ps k
import_in-push [] zero = refl
import_in-push [] (suc k) = refl
import_in-push (o ∷ ps) zero = refl
import_in-push (o ∷ ps) (suc k) = import_in-push ps k

imports_in-push : (ps : ImportPlaces) → imports_in (ps ++ None ∷ []) ≡ imports_in ps
imports_in-push [] = refl
imports_in-push (None ∷ ps) = imports_in-push ps
imports_in-push (Some i ∷ ps) = ap (λ es. (class_of i.0, i) ∷ es) (imports_in-push ps)

-- ---- the order of imports

-- an entry of another key is put last
pub insert_entry-absent : (es : List (Class × ImportContent)) (c : Class) (i : ImportContent) → lookup (class_eq c) es ≡ None → insert_entry class_eq es c i ≡ es ++ (c, i) ∷ []
insert_entry-absent [] c i h = refl
insert_entry-absent (e ∷ es) c i h = at (class_eq c e.0) h (insert_entry-absent es c i)
  where
    at : (b : Bool) → cond b (Some e.1) (lookup (class_eq c) es) ≡ None → (lookup (class_eq c) es ≡ None → insert_entry class_eq es c i ≡ es ++ (c, i) ∷ [])
        → cond b ((e.0, i) ∷ es) (e ∷ insert_entry class_eq es c i) ≡ e ∷ (es ++ (c, i) ∷ [])
    at true k rest = absurd (cc)
    at false k rest = ap (λ (l : List (Class × ImportContent)). e ∷ l) (rest k)

imports_in-last : (ps : ImportPlaces) (i : ImportContent) → imports_in (ps ++ Some i ∷ []) ≡ imports_in ps ++ (class_of i.0, i) ∷ []
imports_in-last [] i = refl
imports_in-last (None ∷ ps) i = imports_in-last ps i
imports_in-last (Some e ∷ ps) i = ap (λ es. (class_of e.0, e) ∷ es) (imports_in-last ps i)

imports_in-set : (ps : ImportPlaces) (n : ℕ) (c : Class) (i e : ImportContent) → ArePlacesApart ps → import_in ps n ≡ Some e → class_of e.0 ≡ c → class_of i.0 ≡ c
    → imports_in (set ps n (Some i)) ≡ insert_entry class_eq (imports_in ps) c i
imports_in-set [] n c i e apart h was of = absurd (cc)
imports_in-set (None ∷ ps) zero c i e apart h was of = absurd (cc)
imports_in-set (None ∷ ps) (suc k) c i e apart h was of = imports_in-set ps k c i e (apart_later None ps apart) h was of
imports_in-set (Some d ∷ ps) zero c i e apart h was of =
    let same : d ≡ e = cc in
    let is : class_of d.0 ≡ c = ap (λ (x : ImportContent). class_of x.0) same ∙ was in
    ap (λ (q : Class). (q, i) ∷ imports_in ps) (of ∙ sym is)
    ∙ sym (ap (λ b. cond b ((class_of d.0, i) ∷ imports_in ps) ((class_of d.0, d) ∷ insert_entry class_eq (imports_in ps) c i)) (is_class c (class_of d.0) (sym is)))
imports_in-set (Some d ∷ ps) (suc k) c i e apart h was of = at (class_eq c (class_of d.0)) refl (imports_in-set ps k c i e (apart_later (Some d) ps apart) h was of)
  where
    at : (b : Bool) → class_eq c (class_of d.0) ≡ b → imports_in (set ps k (Some i)) ≡ insert_entry class_eq (imports_in ps) c i
        → (class_of d.0, d) ∷ imports_in (set ps k (Some i)) ≡ cond b ((class_of d.0, i) ∷ imports_in ps) ((class_of d.0, d) ∷ insert_entry class_eq (imports_in ps) c i)
    at true p rest = absurd (let no : suc k ≡ zero = apart (suc k) zero e d h refl (was ∙ same_class _ _ p) in omega arith)
    at false p rest = ap (λ (l : List (Class × ImportContent)). (class_of d.0, d) ∷ l) rest

-- ---- a list of imports

abbrev content : ImportPlaces → List (Text × Class) → ImportsContent
content ps led = record { list = imports_in ps; led = led }

-- imports in places under an index, and names that lead to them
abbrev ArePlacesKept : ImportPlaces → Index → List (Text × Class) → Type 0
ArePlacesKept ps index led = ArePlaced ps index × AreFiled (content ps led)

pub ArePlacesKept-push : (ps qs : ImportPlaces) (index later : Index) (led : List (Text × Class)) → ArePlacesKept ps index led → qs ≡ ps ++ None ∷ [] → later ≡ index → ArePlacesKept qs later led
ArePlacesKept-push ps qs index later led kept pushed same =
    let in_place : (k : ℕ) → import_in qs k ≡ import_in ps k = λ k. ap (λ rs. import_in rs k) pushed ∙ import_in-push ps k in (
      record {
        placed = λ c k h. let p = kept.0.placed c k (ap (λ es. class_at es c) (sym same) ∙ h) in (p.0, in_place k ∙ p.1, p.2);
        indexed = λ k i h. ap (λ es. class_at es (class_of i.0)) same ∙ kept.0.indexed k i (sym (in_place k) ∙ h);
      },
      subst (λ es. AreFiled (record { list = es; led = led })) (sym (ap imports_in pushed ∙ imports_in-push ps)) kept.1,
    )

-- what stands in places after one was emptied
abbrev IsCleared : Option ℕ → ImportPlaces → ImportPlaces → Type 0
IsCleared o ps rs = MatchOption o (rs ≡ ps) (λ k. rs ≡ set ps k None)

pub IsCleared-along : (o : Option ℕ) (ps qs rs : ImportPlaces) → qs ≡ ps → IsCleared o qs rs → IsCleared o ps rs
IsCleared-along o ps qs rs h = subst (λ xs. IsCleared o xs rs) h

cleared_other : (o : Option ℕ) (ps rs : ImportPlaces) → IsCleared o ps rs → (k : ℕ) → o ≢ Some k → import_in rs k ≡ import_in ps k
cleared_other None ps rs h k ne = ap (λ qs. import_in qs k) h
cleared_other (Some j) ps rs h k ne = ap (λ qs. import_in qs k) h ∙ get_or-set_other ps j k None None (λ e. ne (ap (λ (m : ℕ). Some m) (sym e)))

cleared_here : (o : Option ℕ) (ps rs : ImportPlaces) → IsCleared o ps rs → (k : ℕ) → o ≡ Some k → k < length ps → import_in rs k ≡ None
cleared_here None ps rs h k e l = absurd (cc)
cleared_here (Some j) ps rs h k e l =
    let same : j ≡ k = cc in
    ap (λ qs. import_in qs k) (h ∙ ap (λ (m : ℕ). set ps m None) same) ∙ get_or-set_same ps k None None l

cleared_length : (o : Option ℕ) (ps rs : ImportPlaces) → IsCleared o ps rs → length rs ≡ length ps
cleared_length None ps rs h = ap length h
cleared_length (Some j) ps rs h = ap length h ∙ length-set ps j None

-- what the index lends for a class that has an import: the place of that, also where an empty place was added
lent_some : (r : Option (MutBor ℕ)) (k : ℕ) → option_copied_mut r ≡ Some k → IsSome r
lent_some None k h = absurd (cc)
lent_some (Some p) k h = refl

module _ (ps : ImportPlaces) (index : Index) (placed : ArePlaced ps index) (c : Class) (there : IsSome (lookup (class_eq c) (imports_in ps))) (r : Option (MutBor ℕ)) (lent : option_copied_mut r ≡ class_at index c) where
  its_import : (i : ImportContent) × (lookup (class_eq c) (imports_in ps) ≡ Some i)
  its_import = some_of (lookup (class_eq c) (imports_in ps)) there

  its_place : (k : ℕ) × (import_in ps k ≡ Some its_import.0) × (class_of its_import.0.0 ≡ c)
  its_place = place_of ps c its_import.0 its_import.1

  has_place : class_at index c ≡ Some its_place.0
  has_place = ap (class_at index) (sym its_place.2) ∙ placed.indexed its_place.0 its_import.0 its_place.1

  pub is_lent : IsSome r
  is_lent = lent_some r its_place.0 (lent ∙ has_place)

  pub lent_place : (p : MutBor ℕ) → r ≡ Some p → class_at index c ≡ Some p.now
  lent_place p is = sym lent ∙ ap option_copied_mut is

  pub import_there : (p : MutBor ℕ) → r ≡ Some p → (qs : ImportPlaces) → qs ≡ ps ++ None ∷ [] → import_in qs p.now ≡ lookup (class_eq c) (imports_in ps)
  import_there p is qs pushed =
      let same : Some its_place.0 ≡ Some p.now = sym has_place ∙ lent_place p is in
      let at : its_place.0 ≡ p.now = cc in
      ap (λ xs. import_in xs p.now) pushed ∙ import_in-push ps p.now ∙ ap (import_in ps) (sym at) ∙ its_place.1 ∙ sym its_import.1

-- an import is put in the last place, and the place that its class had is emptied
module _ (ps rs qs : ImportPlaces) (index later : Index) (led : List (Text × Class)) (c : Class) (i : ImportContent) (o : Option ℕ) (n : ℕ)
    (kept : ArePlacesKept ps index led)
    (of : class_of i.0 ≡ c)
    (last : n ≡ length ps)
    (left : o ≡ class_at index c)
    (cleared : IsCleared o (ps ++ None ∷ []) rs)
    (filled : qs ≡ set rs n (Some i))
    (noted : (q : Class) → class_at later q ≡ update class_eq (class_at index) c (Some n) q) where
  one_more : length (ps ++ None ∷ []) ≡ n + 1
  one_more = length-append ps (None ∷ []) ∙ ap (λ (m : ℕ). m + 1) (sym last)

  free : (e : ImportContent) → import_in ps n ≡ Some e → class_of e.0 ≡ c
  free e h = let no : None ≡ Some e = sym (get_or_past ps n None (omega (arith, last))) ∙ h in absurd (cc)

  here : import_in qs n ≡ Some i
  here = ap (λ l. import_in l n) filled ∙ get_or-set_same rs n (Some i) None (omega (arith, cleared_length o _ rs cleared, one_more))

  elsewhere : (k : ℕ) → k ≢ n → import_in qs k ≡ import_in rs k
  elsewhere k ne = ap (λ l. import_in l k) filled ∙ get_or-set_other rs n k (Some i) None ne

  emptied : (k : ℕ) → k ≢ n → class_at index c ≡ Some k → import_in qs k ≡ None
  emptied k ne h =
      let l = within ps index kept.0 c k h in
      elsewhere k ne ∙ cleared_here o _ rs cleared k (left ∙ h) (omega (arith, last, one_more, l))

  others : (k : ℕ) → k ≢ n → class_at index c ≢ Some k → import_in qs k ≡ import_in ps k
  others k ne h = elsewhere k ne ∙ cleared_other o _ rs cleared k (λ e. h (sym left ∙ e)) ∙ import_in-push ps k

  ArePlaced-moved : ArePlaced qs later
  ArePlaced-moved = ArePlaced-put ps index kept.0 qs later c n i of free here emptied others noted

  pub PutsImport-moved : PutsImport (content ps led) (content qs led) c i
  PutsImport-moved = lookup-imports_in-put ps qs index later kept.0 ArePlaced-moved c i (import_in-put ps index kept.0 qs later c n i of free here emptied others noted)

  -- a class that had no import has it last
  pub list-moved : lookup (class_eq c) (imports_in ps) ≡ None → imports_in qs ≡ imports_in ps ++ (c, i) ∷ []
  list-moved none =
      let as_was : rs ≡ ps ++ None ∷ [] = subst (λ x. IsCleared x (ps ++ None ∷ []) rs) (left ∙ unplaced ps index kept.0 c none) cleared in
      let filled_last : qs ≡ ps ++ Some i ∷ [] = filled ∙ ap (λ l. set l n (Some i)) as_was ∙ ap (λ (m : ℕ). set (ps ++ None ∷ []) m (Some i)) last ∙ set-append_seam ps None [] (Some i) in
      ap imports_in filled_last ∙ imports_in-last ps i ∙ ap (λ q. imports_in ps ++ (q, i) ∷ []) of

  pub ArePlacesKept-moved : ArePlacesKept qs later led
  ArePlacesKept-moved = (ArePlaced-moved, AreFiled-put (content ps led) (content qs led) kept.1 c i of (IsDistinct-imports_in qs later ArePlaced-moved) PutsImport-moved refl)

-- an import is put in the place of its class
module _ (ps qs : ImportPlaces) (index : Index) (led : List (Text × Class)) (c : Class) (i : ImportContent) (n : ℕ)
    (kept : ArePlacesKept ps index led)
    (of : class_of i.0 ≡ c)
    (place : class_at index c ≡ Some n)
    (filled : qs ≡ set ps n (Some i)) where
  its_own : (e : ImportContent) → import_in ps n ≡ Some e → class_of e.0 ≡ c
  its_own e h =
      let p = kept.0.placed c n place in
      let same : p.0 ≡ e = cc (sym p.1 ∙ h) in
      ap (λ (x : ImportContent). class_of x.0) (sym same) ∙ p.2

  stands : import_in qs n ≡ Some i
  stands = ap (λ l. import_in l n) filled ∙ get_or-set_same ps n (Some i) None (within ps index kept.0 c n place)

  no_other : (k : ℕ) → k ≢ n → class_at index c ≡ Some k → import_in qs k ≡ None
  no_other k ne h = let same : n ≡ k = cc (sym place ∙ h) in absurd (ne (sym same))

  rest : (k : ℕ) → k ≢ n → class_at index c ≢ Some k → import_in qs k ≡ import_in ps k
  rest k ne h = ap (λ l. import_in l k) filled ∙ get_or-set_other ps n k (Some i) None ne

  as_noted : (q : Class) → class_at index q ≡ update class_eq (class_at index) c (Some n) q
  as_noted q = at (class_eq c q) refl
    where
      at : (b : Bool) → class_eq c q ≡ b → class_at index q ≡ cond b (Some n) (class_at index q)
      at true p = ap (class_at index) (sym (same_class c q p)) ∙ place
      at false p = refl

  ArePlaced-over : ArePlaced qs index
  ArePlaced-over = ArePlaced-put ps index kept.0 qs index c n i of its_own stands no_other rest as_noted

  pub PutsImport-over : PutsImport (content ps led) (content qs led) c i
  PutsImport-over = lookup-imports_in-put ps qs index index kept.0 ArePlaced-over c i (import_in-put ps index kept.0 qs index c n i of its_own stands no_other rest as_noted)

  pub list-over : imports_in qs ≡ insert_entry class_eq (imports_in ps) c i
  list-over = let p = kept.0.placed c n place in ap imports_in filled ∙ imports_in-set ps n c i p.0 (apart ps index kept.0) p.1 p.2 of

  pub ArePlacesKept-over : ArePlacesKept qs index led
  ArePlacesKept-over = (ArePlaced-over, AreFiled-put (content ps led) (content qs led) kept.1 c i of (IsDistinct-imports_in qs index ArePlaced-over) PutsImport-over refl)
