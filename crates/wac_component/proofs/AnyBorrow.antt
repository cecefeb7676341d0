-- A borrowed handle stands in a list of types where it stands in one of them.
use Rattle.std.proofs.Common.{◌≡◌, ◌≤◌, ◌<◌, ℕ, suc, zero, List, [], ◌∷◌, ◌++◌, Option, Some, None, map, length, slice_get, Bool, true, false, ◌||◌, refl, ap, sym, ◌∙◌, arith}
use Rattle.std.specs.List.{flat_map}
use Rattle.std.specs.Option.{option_to_list}
use Rattle.std.specs.declared.string.String.{String}
use Rattle.std.specs.declared.alloc.Global.{Global}
use Rattle.wac_model.specs.ValueTree.{ValueTree, parts_of}
use Rattle.wac_component.specs.Borrow.{has_borrow, have_borrow}
use Rattle.wac_component.specs.Content.{types_of, case_types}
use Rattle.wac_component.specs.Height.{largest}
use Rattle.wac_component.specs.Key.{Key, Each, value_keys}
use Rattle.wac_component.specs.declared.items.ValueType.{ValueType}
use Rattle.wac_component.proofs.Keys.{Each-left, Each-right, largest-append}

abbrev pub Cases : Type 0
Cases = List (String Global × Option ValueType)

or_true : (a : Bool) → (a || true) ≡ true
or_true true = refl
or_true false = refl

or_assoc : (a b d : Bool) → ((a || b) || d) ≡ (a || (b || d))
or_assoc true b d = refl
or_assoc false b d = refl

module _ (f : ValueType → ValueTree) where
  -- a borrowed handle stands in one of the types
  abbrev pub any_borrows : List ValueType → Bool
  any_borrows vs = have_borrow (parts_of (map f vs))

  pub any_borrows-append : (vs ws : List ValueType) → any_borrows (vs ++ ws) ≡ (any_borrows vs || any_borrows ws)
  any_borrows-append [] ws = refl
  any_borrows-append (v ∷ vs) ws = ap (λ b. has_borrow (f v) || b) (any_borrows-append vs ws) ∙ sym (or_assoc (has_borrow (f v)) (any_borrows vs) (any_borrows ws))

  pub any_borrows-found : (vs : List ValueType) (i : ℕ) (v : ValueType) → slice_get vs i ≡ Some v → has_borrow (f v) ≡ true → any_borrows vs ≡ true
  any_borrows-found [] i v at h = absurd (cc)
  any_borrows-found (w ∷ vs) zero v at h = let same : w ≡ v = cc in rw (same, h) refl
  any_borrows-found (w ∷ vs) (suc i) v at h = rw (any_borrows-found vs i v at h) (or_true (has_borrow (f w)))

  pub any_borrows-none : (vs : List ValueType) (n : ℕ) → length vs ≤ n → ((k : ℕ) (v : ValueType) → k < n → slice_get vs k ≡ Some v → has_borrow (f v) ≡ false) → any_borrows vs ≡ false
  any_borrows-none [] n l h = refl
  any_borrows-none (w ∷ vs) zero l h = absurd (omega arith)
  any_borrows-none (w ∷ vs) (suc n) l h = rw (h 0 w (omega arith) refl) (any_borrows-none vs n (omega arith) (λ k v m at. h (suc k) v (omega arith) at))

  pub any_borrows-case_found : (es : Cases) (i : ℕ) (t : Option ValueType) → slice_get (types_of es) i ≡ Some t → any_borrows (option_to_list t) ≡ true → any_borrows (case_types es) ≡ true
  any_borrows-case_found [] i t at h = absurd (cc)
  any_borrows-case_found (e ∷ es) zero t at h = let same : e.1 ≡ t = cc in any_borrows-append (option_to_list e.1) (case_types es) ∙ rw (same, h) refl
  any_borrows-case_found (e ∷ es) (suc i) t at h = any_borrows-append (option_to_list e.1) (case_types es) ∙ rw (any_borrows-case_found es i t at h) (or_true (any_borrows (option_to_list e.1)))

  pub any_borrows-no_case : (es : Cases) (n : ℕ) → length es ≤ n → ((k : ℕ) (t : Option ValueType) → k < n → slice_get (types_of es) k ≡ Some t → any_borrows (option_to_list t) ≡ false) → any_borrows (case_types es) ≡ false
  any_borrows-no_case [] n l h = refl
  any_borrows-no_case (e ∷ es) zero l h = absurd (omega arith)
  any_borrows-no_case (e ∷ es) (suc n) l h = any_borrows-append (option_to_list e.1) (case_types es) ∙ rw (h 0 e.1 (omega arith) refl) (any_borrows-no_case es n (omega arith) (λ k t m at. h (suc k) t (omega arith) at))

-- the ids in the type of a case are among those in the types of all
pub Each-case : (P : Key → Type 0) (es : Cases) (i : ℕ) (t : Option ValueType) → slice_get (types_of es) i ≡ Some t → Each P (flat_map value_keys (case_types es)) → Each P (flat_map value_keys (option_to_list t))
Each-case P [] i t at h = absurd (cc)
Each-case P ((k, None) ∷ es) zero t at h = let same : None ≡ t = cc in rw (← same) tt
Each-case P ((k, Some v) ∷ es) zero t at h = let same : Some v ≡ t = cc in rw (← same) (both (Each-left P (value_keys v) (flat_map value_keys (case_types es)) h))
  where
    both : Each P (value_keys v) → Each P (flat_map value_keys (v ∷ []))
    both x = nil (value_keys v) x
      where
        nil : (ks : List Key) → Each P ks → Each P (ks ++ [])
        nil [] y = tt
        nil (k ∷ ks) y = (y.0, nil ks y.1)
Each-case P ((k, None) ∷ es) (suc i) t at h = Each-case P es i t at h
Each-case P ((k, Some v) ∷ es) (suc i) t at h = Each-case P es i t at (Each-right P (value_keys v) (flat_map value_keys (case_types es)) h)

pub largest-case : (h : Key → ℕ) (es : Cases) (i : ℕ) (t : Option ValueType) → slice_get (types_of es) i ≡ Some t → largest h (flat_map value_keys (option_to_list t)) ≤ largest h (flat_map value_keys (case_types es))
largest-case h [] i t at = absurd (cc)
largest-case h ((k, None) ∷ es) zero t at = let same : None ≡ t = cc in rw (← same) (omega arith)
largest-case h ((k, Some v) ∷ es) zero t at =
    let same : Some v ≡ t = cc in
    rw (← same) (omega (arith, largest-append h (value_keys v) [], largest-append h (value_keys v) (flat_map value_keys (case_types es))))
largest-case h ((k, None) ∷ es) (suc i) t at = largest-case h es i t at
largest-case h ((k, Some v) ∷ es) (suc i) t at = omega (arith, largest-case h es i t at, largest-append h (value_keys v) (flat_map value_keys (case_types es)))
