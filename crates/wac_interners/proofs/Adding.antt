-- A text that goes last: its place, and the places of the others.
use Rattle.std.proofs.Common.{if◌then◌else◌, ◌≡◌, ◌<◌, ◌≤◌, ◌+◌, ℕ, Bool, true, false, List, [], ◌∷◌, ◌++◌, length, Some, None, String, Global, refl, sym, ap, ◌∙◌, inl, inr, arith, eqb, length-append}
use Rattle.std.proofs.lemmas.Bool.{cases_Bool, eq-eqb, eqb-true, le-ltb, lt-ltb, ltb-false}
use Rattle.std.proofs.lemmas.List.Folds.{position_or_len_push}
use Rattle.std.proofs.lemmas.List.Sums.{prefix_len-le-length}
use Rattle.std.specs.Cmp.Lexicographic.{bytes_decides}
use Rattle.std.specs.List.{list_any, position, position_or_len}
use Rattle.std.specs.String.{string_eq}
use Rattle.std.specs.Prelude.{nat_lt, not, string_bytes}
use Rattle.std.specs.Str.{bytes_eq}
use Rattle.wac_interners.specs.Places.{AddsAt, text_place}

module _ {X : Type 0} (p : X → Bool) (xs : List X) (x : X) where
  longer : length (xs ++ x ∷ []) ≡ length xs + 1
  longer = length-append xs (x ∷ [])

  at_most : position_or_len p xs ≤ length xs
  at_most = prefix_len-le-length (λ y. not (p y)) xs

  -- where none passed before, the new one is the first
  pub position_new : p x ≡ true → position p xs ≡ None → position p (xs ++ x ∷ []) ≡ Some (length xs)
  position_new here none = elim (cases_Bool (nat_lt (position_or_len p xs) (length xs))) [
    | inl lt ↦ cc (rw lt at none)
    | inr ge ↦
        let le = at_most in
        let back = ltb-false _ _ ge in
        let all : position_or_len p xs ≡ length xs = omega arith in
        let after : position_or_len p (xs ++ x ∷ []) ≡ length xs = position_or_len_push p xs x ∙ rw (eq-eqb _ _ all, here) (omega arith) in
        let size = longer in
        let less : nat_lt (length xs) (length (xs ++ x ∷ [])) ≡ true = lt-ltb _ _ (omega arith) in
        rw (after, less) refl
  ]

  -- where the new one does not pass, the first stays
  pub position_kept : p x ≡ false → position p (xs ++ x ∷ []) ≡ position p xs
  position_kept fails = elim (cases_Bool (eqb (position_or_len p xs) (length xs))) [
    | inl e ↦
        let all : position_or_len p xs ≡ length xs = eqb-true _ _ e in
        let after : position_or_len p (xs ++ x ∷ []) ≡ length xs + 1 = position_or_len_push p xs x ∙ rw (e, fails) refl in
        let size = longer in
        let none : nat_lt (length xs + 1) (length (xs ++ x ∷ [])) ≡ false = le-ltb _ _ (omega arith) in
        let before : nat_lt (position_or_len p xs) (length xs) ≡ false = le-ltb _ _ (omega arith) in
        rw (after, none, before) refl
    | inr ne ↦
        let after : position_or_len p (xs ++ x ∷ []) ≡ position_or_len p xs = position_or_len_push p xs x ∙ rw ne refl in
        let le = at_most in
        let other : position_or_len p xs ≡ length xs → ⊥ = λ e. cc (ne, eq-eqb _ _ e) in
        let size = longer in
        let less : position_or_len p xs < length xs = omega arith in
        let both : nat_lt (position_or_len p xs) (length (xs ++ x ∷ [])) ≡ true = lt-ltb _ _ (omega arith) in
        let before : nat_lt (position_or_len p xs) (length xs) ≡ true = lt-ltb _ _ less in
        rw (after, both, before) refl
  ]

module _ (texts : List (String Global)) (s : String Global) (text : List ℕ) (same : string_bytes s ≡ text) where
  pub place_new : text_place texts text ≡ None → text_place (texts ++ s ∷ []) text ≡ Some (length texts)
  place_new none = position_new (λ t. bytes_eq text (string_bytes t)) texts s ((bytes_decides text (string_bytes s)).1 (sym same)) none

  place_kept : (other : List ℕ) → (other ≡ text → ⊥) → text_place (texts ++ s ∷ []) other ≡ text_place texts other
  place_kept other ne = position_kept (λ t. bytes_eq other (string_bytes t)) texts s (elim (cases_Bool (bytes_eq other (string_bytes s))) [
    | inl e ↦ absurd (ne ((bytes_decides other (string_bytes s)).0 e ∙ same))
    | inr f ↦ f
  ])

  pub adds_new : text_place texts text ≡ None → AddsAt texts (texts ++ s ∷ []) text
  adds_new none = record {
    kept = λ other place e. elim (cases_Bool (bytes_eq other text)) [
      | inl b ↦
          let one : other ≡ text = (bytes_decides other text).0 b in
          cc (none, e, ap (λ (t : List ℕ). text_place texts t) one)
      | inr f ↦ place_kept other (λ o. cc (f, (bytes_decides other text).1 o)) ∙ e
    ];
    only_here = place_kept;
  }

-- a text that wasn't there goes last in a set
pub put_last : (texts : List (String Global)) (s : String Global) (text : List ℕ) → string_bytes s ≡ text → list_any (λ t. bytes_eq text (string_bytes t)) texts ≡ false → (if list_any (string_eq s) texts then texts else texts ++ s ∷ []) ≡ texts ++ s ∷ []
put_last texts s text same absent = rw (rw (← same) at absent) refl
