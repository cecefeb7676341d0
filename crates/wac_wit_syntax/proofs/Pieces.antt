-- The pieces that the lexer's steps find, over what is left of a text.
use Rattle.std.proofs.Common.{◌≡◌, ◌≢◌, ℕ, zero, suc, ◌+◌, ◌-◌, ◌<◌, ◌≤◌, max, Bool, true, false, cond, not, ◌&&◌, ◌||◌, ◌⊎◌, List, [], ◌∷◌, ◌++◌, Option, Some, None, option_map, length, get_or, take, drop, eqb, refl, sym, ap, ◌∙◌, subst, subst₂, inl, inr, ⊎_elim, arith, add-zero, append_assoc, length-append, length-drop}
use Rattle.std.specs.Char.{is_ascii_alphabetic, is_ascii_digit}
use Rattle.std.specs.List.{AllByRecursion, list_all}
use Rattle.std.proofs.lemmas.Bool.Decides.{nat_tests}
use Rattle.std.proofs.lemmas.List.{drop-drop, drop_at, drop_more, get_or-drop, length-take-le, take_at, take-append-drop}
use Rattle.wac_wit_syntax.specs.Bytes.{is_space, is_version_byte, is_word_byte}
use Rattle.wac_wit_syntax.specs.Comments.{EndsLine, inside_text, is_docs}
use Rattle.wac_wit_syntax.specs.Names.{is_label}
use Rattle.wac_wit_syntax.specs.Parts.{HasNoPart, IsOfSort, PartSort, token, white}
use Rattle.wac_wit_syntax.specs.Reading.{IsPieceAt, Says, closing_length, end_of, goes_on, kind_of, run_length}
use Rattle.wac_wit_syntax.specs.Tokens.{is_identifier, is_integer, name_goes_on, version_goes_on}
use Rattle.wac_wit_syntax.specs.declared.lexer.Piece.{Piece}
use Rattle.wac_wit_syntax.specs.declared.lexer.Piece.TheVariants as piece
use Rattle.wac_wit_syntax.specs.declared.scanning.Run.TheVariants as run
use Rattle.wac_wit_syntax.specs.declared.scanning.Run.{Run}
use Rattle.wac_wit_syntax.specs.declared.token.TokenKind.{TokenKind}
use Rattle.wac_wit_syntax.specs.declared.token.TokenKind.TheVariants.{Word, Escaped, Integer, Version, Underscore, Equals, Comma, Colon, Semicolon, OpenParen, CloseParen, OpenBrace, CloseBrace, OpenAngle, CloseAngle, Star, Dot, At, Invalid}
use Rattle.wac_wit_syntax.proofs.Balanced.{comment_closed, inside_size}
use Rattle.wac_wit_syntax.proofs.FirstPart.{first_part, name_part, number_part, part_by}
use Rattle.wac_wit_syntax.proofs.Labels.{IsPiece, full, pieces_of_run}
use Rattle.wac_wit_syntax.proofs.OnePart.{at_digit, at_letter, digit_in_version, none_begins}
use Rattle.wac_wit_syntax.proofs.Runs.{Stops, both, run_all, run_more, run_stops, run_within, together}

-- a piece of so many bytes of what is left
pub piece_of : (p : Piece) (text : List ℕ) (at n : ℕ) → at < length text → end_of p ≡ at + n → 0 < n → n ≤ length (drop at text) → Says p (take n (drop at text)) (drop n (drop at text)) → IsPieceAt text at p
piece_of p text at n h e some fits says =
    let size : length (drop at text) ≡ length text - at = length-drop at text in
    let n_is : n ≡ end_of p - at = omega arith in
    let behind : drop n (drop at text) ≡ drop (end_of p) text = drop-drop n at text ∙ ap (λ k. drop k text) (sym e) in
    record {
      begins = omega arith;
      within = omega arith;
      says = subst (λ k. Says p (take k (drop at text)) (drop (end_of p) text)) n_is (subst (Says p (take n (drop at text))) behind says);
    }

-- ---- what a first byte tells of what is left

pub one_byte : (t : List ℕ) (x : ℕ) → get_or t 0 0 ≡ x → 0 < x → t ≡ x ∷ drop 1 t
one_byte [] x e h = absurd (omega arith)
one_byte (b ∷ bs) x e h = ap (λ y. y ∷ bs) e

pub two_bytes : (t : List ℕ) (x y : ℕ) → get_or t 0 0 ≡ x → 0 < x → get_or t 1 0 ≡ y → 0 < y → t ≡ x ∷ y ∷ drop 2 t
two_bytes [] x y e h f k = absurd (omega arith)
two_bytes (b ∷ []) x y e h f k = absurd (omega arith)
two_bytes (b ∷ c ∷ bs) x y e h f k = rw (e, f) refl

-- ---- line comments

is_other : (b : ℕ) → not (eqb b 10) ≡ true → b ≢ 10
is_other b h e = let k : eqb b 10 ≡ true = grind arith in cc (ap not k, h)

none_ends : (w : List ℕ) → list_all (λ b. not (eqb b 10)) w ≡ true → AllByRecursion (λ b. b ≢ 10) w
none_ends [] h = tt
none_ends (b ∷ bs) h = let k = both (not (eqb b 10)) (list_all (λ b. not (eqb b 10)) bs) h in (is_other b k.0, none_ends bs k.1)

ends_line : (behind : List ℕ) → Stops run.Line behind → EndsLine behind
ends_line [] h = tt
ends_line (b ∷ bs) h = by (eqb b 10) refl h
  where
    by : (t : Bool) → eqb b 10 ≡ t → not t ≡ false → b ≡ 10
    by true e h = grind arith
    by false e h = cc h

line_white : (u : List ℕ) → IsOfSort white (47 ∷ 47 ∷ take (run_length run.Line u) u) (drop (run_length run.Line u) u)
line_white u = inr (inl (take (run_length run.Line u) u, refl, none_ends _ (run_all run.Line (λ b. not (eqb b 10)) (λ b n m. m) u), ends_line _ (run_stops run.Line u)))

-- the first byte of the rest of a line is a slash where the next byte is
line_byte : (u : List ℕ) → eqb (get_or (take (run_length run.Line u) u) 0 0) 47 ≡ eqb (get_or u 0 0) 47
line_byte [] = refl
line_byte (b ∷ bs) = by (eqb b 10) refl
  where
    by : (t : Bool) → eqb b 10 ≡ t → eqb (get_or (take (cond (not t) (suc (run_length run.Line bs)) 0) (b ∷ bs)) 0 0) 47 ≡ eqb b 47
    by true e = let k : b ≡ 10 = grind arith in rw k refl
    by false e = refl

line_docs : (u : List ℕ) → is_docs (47 ∷ 47 ∷ take (run_length run.Line u) u) ≡ (eqb (get_or u 0 0) 47 && not (eqb (get_or u 1 0) 47)) || false
line_docs [] = refl
line_docs (b ∷ bs) = by (eqb b 47) refl
  where
    by : (t : Bool) → eqb b 47 ≡ t → is_docs (47 ∷ 47 ∷ take (run_length run.Line (b ∷ bs)) (b ∷ bs)) ≡ (t && not (eqb (get_or bs 0 0) 47)) || false
    by true e =
        let k : b ≡ 47 = grind arith in
        rw k (ap (λ t. not t || false) (line_byte bs))
    by false e = ap (λ t. (t && not (eqb (get_or (take (run_length run.Line (b ∷ bs)) (b ∷ bs)) 1 0) 47)) || false) (line_byte (b ∷ bs) ∙ e)

pub line_says : (t : List ℕ) → get_or t 0 0 ≡ 47 → get_or t 1 0 ≡ 47
    → IsOfSort white (take (run_length run.Line t) t) (drop (run_length run.Line t) t) × (is_docs (take (run_length run.Line t) t) ≡ (eqb (get_or t 2 0) 47 && not (eqb (get_or t 3 0) 47)) || false) × (2 ≤ run_length run.Line t)
line_says t e f = by t (drop 2 t) (two_bytes t 47 47 e (omega arith) f (omega arith))
  where
    by : (t u : List ℕ) → t ≡ 47 ∷ 47 ∷ u → IsOfSort white (take (run_length run.Line t) t) (drop (run_length run.Line t) t) × (is_docs (take (run_length run.Line t) t) ≡ (eqb (get_or t 2 0) 47 && not (eqb (get_or t 3 0) 47)) || false) × (2 ≤ run_length run.Line t)
    by t u e = rw e (line_white u, line_docs u, omega arith)

-- ---- block comments

block_docs : (v u : List ℕ) → 2 ≤ length v → is_docs (47 ∷ 42 ∷ v) ≡ (eqb (get_or (v ++ u) 0 0) 42 && (not (eqb (get_or (v ++ u) 1 0) 42) && not (eqb (get_or (v ++ u) 1 0) 47)))
block_docs [] u h = absurd (omega arith)
block_docs (b ∷ []) u h = absurd (omega arith)
block_docs (b ∷ c ∷ v) u h = refl

pub block_says : (t : List ℕ) (n : ℕ) → get_or t 0 0 ≡ 47 → get_or t 1 0 ≡ 42 → closing_length 1 (drop 2 t) ≡ Some n
    → IsOfSort white (take (2 + n) t) (drop (2 + n) t) × (is_docs (take (2 + n) t) ≡ (eqb (get_or t 2 0) 42 && (not (eqb (get_or t 3 0) 42) && not (eqb (get_or t 3 0) 47)))) × (2 + n ≤ length t)
block_says t n e f h = by t (drop 2 t) (two_bytes t 47 42 e (omega arith) f (omega arith)) h
  where
    by : (t u : List ℕ) → t ≡ 47 ∷ 42 ∷ u → closing_length 1 u ≡ Some n → IsOfSort white (take (2 + n) t) (drop (2 + n) t) × (is_docs (take (2 + n) t) ≡ (eqb (get_or t 2 0) 42 && (not (eqb (get_or t 3 0) 42) && not (eqb (get_or t 3 0) 47)))) × (2 + n ≤ length t)
    by t u e h =
        let r = comment_closed u n h in
        let all : t ≡ 47 ∷ 42 ∷ (inside_text r.inside ++ r.behind) = e ∙ ap (λ v. 47 ∷ 42 ∷ v) r.text_is in
        let two : 2 + n ≡ suc (suc (length (inside_text r.inside))) = omega (arith, r.size) in
        rw (two, all) (
          rw (take_at (inside_text r.inside) r.behind (length (inside_text r.inside)) refl) (inr (inr (r.inside, r.balanced, refl))),
          rw (take_at (inside_text r.inside) r.behind (length (inside_text r.inside)) refl) (block_docs (inside_text r.inside) r.behind (inside_size r.inside)),
          omega (arith, length-append (inside_text r.inside) r.behind),
        )

pub block_none : (t : List ℕ) → get_or t 0 0 ≡ 47 → get_or t 1 0 ≡ 42 → closing_length 1 (drop 2 t) ≡ None → HasNoPart t
block_none t e f h = by t (drop 2 t) (two_bytes t 47 42 e (omega arith) f (omega arith)) h
  where
    by : (t u : List ℕ) → t ≡ 47 ∷ 42 ∷ u → closing_length 1 u ≡ None → HasNoPart t
    by t u e h = none_begins t (ap first_part e ∙ ap (option_map (λ n. (white, 2 + n))) h)

-- ---- names

whole_name : (behind : List ℕ) → Stops run.Name behind → name_goes_on behind ≡ false
whole_name [] h = refl
whole_name (b ∷ bs) h = h

some_label : (n : ℕ) (t : List ℕ) → is_label (take n t) ≡ true → 0 < n
some_label zero t h = cc h
some_label (suc n) t h = omega arith

pub word_says : (t : List ℕ) → is_label (take (run_length run.Name t) t) ≡ true → IsOfSort (token Word) (take (run_length run.Name t) t) (drop (run_length run.Name t) t) × (0 < run_length run.Name t)
word_says t h = ((h, whole_name _ (run_stops run.Name t)), some_label _ t h)

pub escaped_says : (t : List ℕ) → get_or t 0 0 ≡ 37 → is_label (take (run_length run.Name (drop 1 t)) (drop 1 t)) ≡ true → IsOfSort (token Escaped) (take (1 + run_length run.Name (drop 1 t)) t) (drop (1 + run_length run.Name (drop 1 t)) t)
escaped_says t e h = by t (drop 1 t) (one_byte t 37 e (omega arith)) h
  where
    by : (t u : List ℕ) → t ≡ 37 ∷ u → is_label (take (run_length run.Name u) u) ≡ true → IsOfSort (token Escaped) (take (1 + run_length run.Name u) t) (drop (1 + run_length run.Name u) t)
    by t u e h =
        let one : 1 + run_length run.Name u ≡ suc (run_length run.Name u) = omega arith in
        rw (one, e) ((take (run_length run.Name u) u, refl, h), whole_name _ (run_stops run.Name u))

pub escaped_none : (t : List ℕ) → get_or t 0 0 ≡ 37 → is_label (take (run_length run.Name (drop 1 t)) (drop 1 t)) ≡ false → HasNoPart t
escaped_none t e h = by t (drop 1 t) (one_byte t 37 e (omega arith)) h
  where
    by : (t u : List ℕ) → t ≡ 37 ∷ u → is_label (take (run_length run.Name u) u) ≡ false → HasNoPart t
    by t u e h = none_begins t (ap first_part e ∙ ap (λ s. cond s (Some (token Escaped, 1 + run_length run.Name u)) None) h)

pub word_none : (t : List ℕ) → (is_ascii_alphabetic (get_or t 0 0) ≡ true) ⊎ ((get_or t 0 0 ≡ 95) × (is_word_byte (get_or t 1 0) ≡ true)) → is_label (take (run_length run.Name t) t) ≡ false → HasNoPart t
word_none t s h = none_begins t (by s ∙ ap (λ s. cond s (Some (token Word, 0 + run_length run.Name t)) None) h)
  where
    by : (is_ascii_alphabetic (get_or t 0 0) ≡ true) ⊎ ((get_or t 0 0 ≡ 95) × (is_word_byte (get_or t 1 0) ≡ true)) → first_part t ≡ name_part Word 0 t
    by (inl k) = at_letter (get_or t 0 0) (get_or t 1 0) t k
    by (inr k) = ap (λ b. part_by b (get_or t 1 0) t) k.0 ∙ ap (λ s. cond s (name_part Word 0 t) (Some (token Underscore, 1))) k.1

pub word_some : (t : List ℕ) → (is_ascii_alphabetic (get_or t 0 0) ≡ true) ⊎ ((get_or t 0 0 ≡ 95) × (is_word_byte (get_or t 1 0) ≡ true)) → 0 < run_length run.Name t
word_some [] (inl h) = cc h
word_some [] (inr h) = cc h.1
word_some (b ∷ bs) (inl h) = let e = run_more run.Name b bs (letter_on b (get_or bs 0 0) h) in omega (arith, e)
  where
    letter_on : (b n : ℕ) → is_ascii_alphabetic b ≡ true → goes_on run.Name b n ≡ true
    letter_on b n h = grind (arith, nat_tests)
word_some (b ∷ bs) (inr h) = let e = run_more run.Name b bs (ap (λ x. goes_on run.Name x (get_or bs 0 0)) h.0) in omega (arith, e)

-- ---- numbers

digits_integer : (t : List ℕ) → is_ascii_digit (get_or t 0 0) ≡ true → is_integer (take (run_length run.Digits t) t) ≡ true
digits_integer [] h = cc h
digits_integer (b ∷ bs) h = rw (run_more run.Digits b bs h) (together (is_ascii_digit b) (list_all is_ascii_digit (take (run_length run.Digits bs) bs)) h (run_all run.Digits is_ascii_digit (λ b n m. m) bs))

pub digits_some : (t : List ℕ) → is_ascii_digit (get_or t 0 0) ≡ true → 0 < run_length run.Digits t
digits_some [] h = cc h
digits_some (b ∷ bs) h = let e = run_more run.Digits b bs h in omega (arith, e)

behind_at : (n i : ℕ) (t : List ℕ) → get_or (drop n t) i 0 ≡ get_or t (n + i) 0
behind_at n i t = get_or-drop n t i 0

pub integer_says : (t : List ℕ) (n : ℕ) → n ≡ run_length run.Digits t → is_ascii_digit (get_or t 0 0) ≡ true → (eqb (get_or t n 0) 46 && is_ascii_digit (get_or t (n + 1) 0)) ≡ false → is_word_byte (get_or t n 0) ≡ false → IsOfSort (token Integer) (take n t) (drop n t)
integer_says t n e h f g =
    let first : get_or (drop n t) 0 0 ≡ get_or t n 0 = behind_at n 0 t ∙ ap (λ k. get_or t k 0) (add-zero n) in
    let next : get_or (drop n t) 1 0 ≡ get_or t (n + 1) 0 = behind_at n 1 t in (
      rw e (digits_integer t h),
      ap (λ x. (eqb x 46 && is_ascii_digit (get_or (drop n t) 1 0)) || is_word_byte x) first ∙ ap (λ x. (eqb (get_or t n 0) 46 && is_ascii_digit x) || is_word_byte (get_or t n 0)) next
          ∙ ap (λ s. s || is_word_byte (get_or t n 0)) f ∙ g,
    )

pub number_none : (t : List ℕ) (n : ℕ) → n ≡ run_length run.Digits t → is_ascii_digit (get_or t 0 0) ≡ true → (eqb (get_or t n 0) 46 && is_ascii_digit (get_or t (n + 1) 0)) ≡ false → is_word_byte (get_or t n 0) ≡ true → HasNoPart t
number_none t n e h f g = none_begins t (at_digit (get_or t 0 0) (get_or t 1 0) t h ∙ ap (λ k. number_part k t) (sym e)
    ∙ ap (λ s. cond s (Some (token Version, n + run_length run.Version (drop n t))) (cond (is_word_byte (get_or t n 0)) None (Some (token Integer, n)))) f ∙ ap (λ s. cond s None (Some (token Integer, n))) g)

pub digits_in_name : (t : List ℕ) → is_ascii_digit (get_or t 0 0) ≡ true → 0 < run_length run.Name t
digits_in_name [] h = cc h
digits_in_name (b ∷ bs) h = let e = run_more run.Name b bs (digit_on b (get_or bs 0 0) h) in omega (arith, e)
  where
    digit_on : (b n : ℕ) → is_ascii_digit b ≡ true → goes_on run.Name b n ≡ true
    digit_on b n h = grind (arith, nat_tests)

whole_version : (behind : List ℕ) → Stops run.Version behind → version_goes_on behind ≡ false
whole_version [] h = refl
whole_version (b ∷ bs) h = h

version_pieces : (ps : List (List ℕ)) → AllByRecursion (IsPiece is_version_byte) ps → list_all is_identifier ps ≡ true
version_pieces [] h = refl
version_pieces (p ∷ ps) h = together (is_identifier p) (list_all is_identifier ps) (by p h.0) (version_pieces ps h.1)
  where
    by : (p : List ℕ) → IsPiece is_version_byte p → is_identifier p ≡ true
    by [] h = absurd h
    by (b ∷ bs) h = together (is_version_byte b) (list_all is_version_byte bs) h.0 h.1

byte_on : (b n : ℕ) → is_version_byte b ≡ true → goes_on run.Version b n ≡ true
byte_on b n h = ap (λ t. t || (eqb b 46 && is_version_byte n)) h

on_byte : (b n : ℕ) → goes_on run.Version b n ≡ true → (is_version_byte b ≡ true) ⊎ ((b ≡ 46) × (is_version_byte n ≡ true))
on_byte b n h = by (is_version_byte b) refl h
  where
    by : (t : Bool) → is_version_byte b ≡ t → (t || (eqb b 46 && is_version_byte n)) ≡ true → (is_version_byte b ≡ true) ⊎ ((b ≡ 46) × (is_version_byte n ≡ true))
    by true e h = inl e
    by false e h = let k = both (eqb b 46) (is_version_byte n) h in inr (let f = k.0 in grind arith, k.1)

first_taken : (u : List ℕ) → is_ascii_digit (get_or u 0 0) ≡ true → get_or (take (run_length run.Version u) u) 0 0 ≡ get_or u 0 0
first_taken [] h = refl
first_taken (b ∷ bs) h = rw (run_more run.Version b bs (byte_on b (get_or bs 0 0) (digit_in_version b h))) refl

version_text : (number u : List ℕ) (n : ℕ) → length number ≡ n → is_integer number ≡ true → is_ascii_digit (get_or u 0 0) ≡ true
    → IsOfSort (token Version) (take (n + suc (run_length run.Version u)) (number ++ 46 ∷ u)) (drop (n + suc (run_length run.Version u)) (number ++ 46 ∷ u))
version_text number u n l h d =
    let m = run_length run.Version u in
    let shape : number ++ 46 ∷ u ≡ (number ++ 46 ∷ take m u) ++ drop m u = ap (λ v. number ++ 46 ∷ v) (sym (take-append-drop m u)) ∙ sym (append_assoc number (46 ∷ take m u) (drop m u)) in
    let kept : length (take m u) ≡ m = (let w = run_within run.Version u in omega (arith, w, taken m u)) in
    let size : length (number ++ 46 ∷ take m u) ≡ n + suc m = omega (arith, length-append number (46 ∷ take m u), kept) in
    let front : take (n + suc m) (number ++ 46 ∷ u) ≡ number ++ 46 ∷ take m u = ap (take (n + suc m)) shape ∙ take_at (number ++ 46 ∷ take m u) (drop m u) (n + suc m) size in
    let back : drop (n + suc m) (number ++ 46 ∷ u) ≡ drop m u = ap (drop (n + suc m)) shape ∙ drop_at (number ++ 46 ∷ take m u) (drop m u) (n + suc m) size in
    let digit : is_ascii_digit (get_or (take m u) 0 0) ≡ true = ap is_ascii_digit (first_taken u d) ∙ d in
    let parts = version_pieces _ (full is_version_byte 46 run.Version refl refl byte_on on_byte u (digit_in_version (get_or u 0 0) d) (pieces_of_run is_version_byte 46 run.Version refl refl byte_on on_byte u)) in
    let says : IsOfSort (token Version) (number ++ 46 ∷ take m u) (drop m u) = ((number, take m u, refl, h, digit, parts), whole_version _ (run_stops run.Version u)) in
    rw (front, back) says
  where
    taken : (m : ℕ) (u : List ℕ) → m ≤ length u → length (take m u) ≡ m
    taken zero u h = refl
    taken (suc m) [] h = absurd (omega arith)
    taken (suc m) (b ∷ bs) h = ap suc (taken m bs (omega arith))

pub version_says : (t : List ℕ) (n : ℕ) → n ≡ run_length run.Digits t → is_ascii_digit (get_or t 0 0) ≡ true → get_or t n 0 ≡ 46 → is_ascii_digit (get_or t (n + 1) 0) ≡ true
    → IsOfSort (token Version) (take (n + run_length run.Version (drop n t)) t) (drop (n + run_length run.Version (drop n t)) t) × (0 < n)
version_says t n e h f g =
    let first : get_or (drop n t) 0 0 ≡ 46 = behind_at n 0 t ∙ ap (λ k. get_or t k 0) (add-zero n) ∙ f in
    let next : get_or (drop n t) 1 0 ≡ get_or t (n + 1) 0 = behind_at n 1 t in
    let fits : n ≤ length t = (let w = run_within run.Digits t in omega arith) in
    by (drop n t) (drop 1 (drop n t)) (one_byte (drop n t) 46 first (omega arith)) (sym (take-append-drop n t)) next (length-take-le n t fits)
  where
    by : (rest u : List ℕ) → rest ≡ 46 ∷ u → t ≡ take n t ++ rest → get_or rest 1 0 ≡ get_or t (n + 1) 0 → length (take n t) ≡ n → IsOfSort (token Version) (take (n + run_length run.Version rest) t) (drop (n + run_length run.Version rest) t) × (0 < n)
    by rest u e' s next l =
        let digit : is_ascii_digit (get_or u 0 0) ≡ true = ap (λ r. is_ascii_digit (get_or r 1 0)) (sym e') ∙ ap is_ascii_digit next ∙ g in
        let number : is_integer (take n t) ≡ true = rw e (digits_integer t h) in
        let runs : run_length run.Version rest ≡ suc (run_length run.Version u) = ap (run_length run.Version) e' ∙ run_more run.Version 46 u (digit_in_version (get_or u 0 0) digit) in
        let whole : t ≡ take n t ++ 46 ∷ u = s ∙ ap (λ r. take n t ++ r) e' in
        let says = version_text (take n t) u n l number digit in
        let P : ℕ → List ℕ → Type 0 = λ m v. IsOfSort (token Version) (take (n + m) v) (drop (n + m) v) in
        (subst₂ P (sym runs) (sym whole) says, (let d = digits_some t h in omega arith))

-- ---- bytes that are tokens by themselves, and those that are none

picked : (b v : ℕ) (kind k : TokenKind) (more : Option TokenKind) → cond (eqb b v) (Some kind) more ≡ Some k → ((b ≡ v) × (kind ≡ k)) ⊎ (more ≡ Some k)
picked b v kind k more h = by (eqb b v) refl h
  where
    by : (t : Bool) → eqb b v ≡ t → cond t (Some kind) more ≡ Some k → ((b ≡ v) × (kind ≡ k)) ⊎ (more ≡ Some k)
    by true e h = inl (grind arith, cc h)
    by false e h = inr h

module _ (b : ℕ) (behind : List ℕ) (k : TokenKind) where
  single : (v : ℕ) (kind : TokenKind) → (b ≡ v) × (kind ≡ k) → IsOfSort (token kind) (v ∷ []) behind → IsOfSort (token k) (b ∷ []) behind
  single v kind e s = subst₂ (λ x y. IsOfSort (token y) (x ∷ []) behind) (sym e.0) e.1 s

  pub operator_says : kind_of b ≡ Some k → IsOfSort (token k) (b ∷ []) behind
  operator_says h =
      ⊎_elim (λ e. single 61 Equals e (refl, tt)) (λ h.
      ⊎_elim (λ e. single 44 Comma e (refl, tt)) (λ h.
      ⊎_elim (λ e. single 58 Colon e (refl, tt)) (λ h.
      ⊎_elim (λ e. single 59 Semicolon e (refl, tt)) (λ h.
      ⊎_elim (λ e. single 40 OpenParen e (refl, tt)) (λ h.
      ⊎_elim (λ e. single 41 CloseParen e (refl, tt)) (λ h.
      ⊎_elim (λ e. single 123 OpenBrace e (refl, tt)) (λ h.
      ⊎_elim (λ e. single 125 CloseBrace e (refl, tt)) (λ h.
      ⊎_elim (λ e. single 60 OpenAngle e (refl, tt)) (λ h.
      ⊎_elim (λ e. single 62 CloseAngle e (refl, tt)) (λ h.
      ⊎_elim (λ e. single 42 Star e (refl, tt)) (λ h.
      ⊎_elim (λ e. single 46 Dot e (refl, tt)) (λ h.
      ⊎_elim (λ e. single 64 At e (refl, tt)) (λ h. cc h)
      (picked b 64 At k _ h)) (picked b 46 Dot k _ h)) (picked b 42 Star k _ h)) (picked b 62 CloseAngle k _ h))
      (picked b 60 OpenAngle k _ h)) (picked b 125 CloseBrace k _ h)) (picked b 123 OpenBrace k _ h)) (picked b 41 CloseParen k _ h)) (picked b 40 OpenParen k _ h))
      (picked b 59 Semicolon k _ h)) (picked b 58 Colon k _ h)) (picked b 44 Comma k _ h)) (picked b 61 Equals k _ h)

-- ---- the pieces at a place of a text

-- a byte that isn't 0 stands in the text
in_text : (text : List ℕ) (i x : ℕ) → get_or text i 0 ≡ x → 0 < x → i < length text
in_text [] i x e h = absurd (omega arith)
in_text (b ∷ bs) zero x e h = omega arith
in_text (b ∷ bs) (suc i) x e h = let k = in_text bs i x e h in omega arith

pub at_byte : (text : List ℕ) (at x : ℕ) → get_or text (at + 1) 0 ≡ x → 0 < x → at + 2 ≤ length text
at_byte text at x e h = let k = in_text text (at + 1) x e h in omega arith

fails : (b v : ℕ) → b ≢ v → eqb b v ≡ false
fails b v n = by (eqb b v) refl
  where
    by : (t : Bool) → eqb b v ≡ t → t ≡ false
    by true e = absurd (n (grind arith))
    by false e = refl

holds : (b v : ℕ) → b ≡ v → eqb b v ≡ true
holds b v e = grind arith

-- nor with a byte that has no meaning
abbrev pub IsNoStart : ℕ → Type 0
IsNoStart b = (is_ascii_alphabetic b ≡ false) × (is_space b ≡ false) × (is_ascii_digit b ≡ false) × (b ≢ 47) × (b ≢ 45) × (b ≢ 37) × (b ≢ 95)

abbrev some_token : TokenKind → PartSort × ℕ
some_token k = (token k, 1)

stray_none : (t : List ℕ) → IsNoStart (get_or t 0 0) → kind_of (get_or t 0 0) ≡ None → HasNoPart t
stray_none t h kind = none_begins t (by (get_or t 0 0) (get_or t 1 0) h.0 h.1 h.2 (fails _ 47 h.3) (fails _ 45 h.4) (fails _ 37 h.5) (fails _ 95 h.6) kind)
  where
    by : (b c : ℕ) → is_ascii_alphabetic b ≡ false → is_space b ≡ false → is_ascii_digit b ≡ false → eqb b 47 ≡ false → eqb b 45 ≡ false → eqb b 37 ≡ false → eqb b 95 ≡ false → kind_of b ≡ None → part_by b c t ≡ None
    by b c h0 h1 h2 h3 h4 h5 h6 kind = rw (h1, h3, h4, h5, h2, h0, h6) (ap (λ o. option_map some_token o) kind)

module _ (text : List ℕ) (at : ℕ) (within : at < length text) where
  here : (i : ℕ) → get_or (drop at text) i 0 ≡ get_or text (at + i) 0
  here i = get_or-drop at text i 0

  first : get_or (drop at text) 0 0 ≡ get_or text at 0
  first = here 0 ∙ ap (λ k. get_or text k 0) (add-zero at)

  size : length (drop at text) + at ≡ length text
  size = omega (arith, length-drop at text)

  docs_of_line : (t : Bool) → ((t && not (eqb (get_or (drop at text) 3 0) 47)) || false) ≡ (t && not (eqb (get_or text (at + 3) 0) 47))
  docs_of_line true = by (not (eqb (get_or (drop at text) 3 0) 47)) refl
    where
      by : (s : Bool) → not (eqb (get_or (drop at text) 3 0) 47) ≡ s → (s || false) ≡ not (eqb (get_or text (at + 3) 0) 47)
      by true e = sym e ∙ ap (λ b. not (eqb b 47)) (here 3)
      by false e = sym e ∙ ap (λ b. not (eqb b 47)) (here 3)
  docs_of_line false = refl

  line : (p : Piece) (end : ℕ) → end_of p ≡ end → get_or text at 0 ≡ 47 → get_or text (at + 1) 0 ≡ 47 → end ≡ at + run_length run.Line (drop at text)
      → ((w behind : List ℕ) → IsOfSort white w behind → is_docs w ≡ (eqb (get_or text (at + 2) 0) 47 && not (eqb (get_or text (at + 3) 0) 47)) → Says p w behind) → IsPieceAt text at p
  line p end ends e f n says =
      let h = line_says (drop at text) (first ∙ e) (here 1 ∙ f) in
      let docs = h.1 ∙ ap (λ b. (eqb b 47 && not (eqb (get_or (drop at text) 3 0) 47)) || false) (here 2) ∙ docs_of_line (eqb (get_or text (at + 2) 0) 47) in
      let some = h.2 in
      piece_of p text at (run_length run.Line (drop at text)) within (ends ∙ n) (omega arith) (run_within run.Line (drop at text)) (says _ _ h.0 docs)

  pub docs_line : (end : ℕ) → get_or text at 0 ≡ 47 → get_or text (at + 1) 0 ≡ 47 → end ≡ at + run_length run.Line (drop at text) → get_or text (at + 2) 0 ≡ 47 → get_or text (at + 3) 0 ≢ 47 → IsPieceAt text at (piece.Docs end)
  docs_line end e f n g h = line (piece.Docs end) end refl e f n (λ w behind s d. (s, d ∙ ap (λ t. t && not (eqb (get_or text (at + 3) 0) 47)) (holds _ 47 g) ∙ ap not (fails _ 47 h)))

  pub plain_line : (end : ℕ) → get_or text at 0 ≡ 47 → get_or text (at + 1) 0 ≡ 47 → end ≡ at + run_length run.Line (drop at text) → (get_or text (at + 2) 0 ≢ 47) ⊎ (get_or text (at + 3) 0 ≡ 47) → IsPieceAt text at (piece.Comment end)
  plain_line end e f n g = line (piece.Comment end) end refl e f n (λ w behind s d. (s, d ∙ by g (eqb (get_or text (at + 2) 0) 47) refl))
    where
      by : (get_or text (at + 2) 0 ≢ 47) ⊎ (get_or text (at + 3) 0 ≡ 47) → (t : Bool) → eqb (get_or text (at + 2) 0) 47 ≡ t → (t && not (eqb (get_or text (at + 3) 0) 47)) ≡ false
      by (inl g) true e = absurd (g (grind arith))
      by (inl g) false e = refl
      by (inr g) true e = ap not (holds _ 47 g)
      by (inr g) false e = refl

  mapped : (from end : ℕ) (o : Option ℕ) → Some end ≡ option_map (λ n. from + n) o → (n : ℕ) × (o ≡ Some n) × (end ≡ from + n)
  mapped from end None h = cc h
  mapped from end (Some n) h = (n, refl, cc h)

  unmapped : (from : ℕ) (o : Option ℕ) → None ≡ option_map (λ n. from + n) o → o ≡ None
  unmapped from None h = refl
  unmapped from (Some n) h = cc h

  behind_two : closing_length 1 (drop (at + 2) text) ≡ closing_length 1 (drop 2 (drop at text))
  behind_two = ap (closing_length 1) (sym (drop-drop 2 at text))

  abbrev two_stars : Bool
  two_stars = eqb (get_or text (at + 2) 0) 42 && (not (eqb (get_or text (at + 3) 0) 42) && not (eqb (get_or text (at + 3) 0) 47))

  block : (p : Piece) (end : ℕ) → end_of p ≡ end → get_or text at 0 ≡ 47 → get_or text (at + 1) 0 ≡ 42 → Some end ≡ option_map (λ n. at + 2 + n) (closing_length 1 (drop (at + 2) text))
      → ((w behind : List ℕ) → IsOfSort white w behind → is_docs w ≡ two_stars → Says p w behind) → IsPieceAt text at p
  block p end ends e f n says =
      let m = mapped (at + 2) end (closing_length 1 (drop (at + 2) text)) n in
      let h = block_says (drop at text) m.0 (first ∙ e) (here 1 ∙ f) (sym behind_two ∙ m.1) in
      let docs = h.1 ∙ ap (λ b. eqb b 42 && (not (eqb (get_or (drop at text) 3 0) 42) && not (eqb (get_or (drop at text) 3 0) 47))) (here 2) ∙ ap (λ b. eqb (get_or text (at + 2) 0) 42 && (not (eqb b 42) && not (eqb b 47))) (here 3) in
      piece_of p text at (2 + m.0) within (ends ∙ (let k = m.2 in omega arith)) (omega arith) h.2 (says _ _ h.0 docs)

  pub docs_block : (end : ℕ) → get_or text at 0 ≡ 47 → get_or text (at + 1) 0 ≡ 42 → Some end ≡ option_map (λ n. at + 2 + n) (closing_length 1 (drop (at + 2) text)) → get_or text (at + 2) 0 ≡ 42 → get_or text (at + 3) 0 ≢ 42 → get_or text (at + 3) 0 ≢ 47 → IsPieceAt text at (piece.Docs end)
  docs_block end e f n g h i = block (piece.Docs end) end refl e f n (λ w behind s d. (s, d ∙ ap (λ t. t && (not (eqb (get_or text (at + 3) 0) 42) && not (eqb (get_or text (at + 3) 0) 47))) (holds _ 42 g) ∙ ap (λ t. not t && not (eqb (get_or text (at + 3) 0) 47)) (fails _ 42 h) ∙ ap not (fails _ 47 i)))

  pub plain_block : (end : ℕ) → get_or text at 0 ≡ 47 → get_or text (at + 1) 0 ≡ 42 → Some end ≡ option_map (λ n. at + 2 + n) (closing_length 1 (drop (at + 2) text)) → (get_or text (at + 2) 0 ≢ 42) ⊎ ((get_or text (at + 3) 0 ≡ 42) ⊎ (get_or text (at + 3) 0 ≡ 47)) → IsPieceAt text at (piece.Comment end)
  plain_block end e f n g = block (piece.Comment end) end refl e f n (λ w behind s d. (s, d ∙ by g (eqb (get_or text (at + 2) 0) 42) refl))
    where
      late : (x : ℕ) → (x ≡ 42) ⊎ (x ≡ 47) → (not (eqb x 42) && not (eqb x 47)) ≡ false
      late x (inl e) = rw e refl
      late x (inr e) = rw e refl

      by : (get_or text (at + 2) 0 ≢ 42) ⊎ ((get_or text (at + 3) 0 ≡ 42) ⊎ (get_or text (at + 3) 0 ≡ 47)) → (t : Bool) → eqb (get_or text (at + 2) 0) 42 ≡ t → (t && (not (eqb (get_or text (at + 3) 0) 42) && not (eqb (get_or text (at + 3) 0) 47))) ≡ false
      by (inl g) true e = absurd (g (grind arith))
      by (inl g) false e = refl
      by (inr g) true e = late (get_or text (at + 3) 0) g
      by (inr g) false e = refl

  -- a piece that is refused takes bytes up to a place
  pub refused : (kind : TokenKind) (end : ℕ) → at < end → end ≤ length text → HasNoPart (drop at text) → IsPieceAt text at (piece.Refused kind end)
  refused kind end some fits none =
      let n : end - at ≤ length (drop at text) = (let k = size in omega arith) in
      piece_of (piece.Refused kind end) text at (end - at) within (omega arith) (omega arith) n (λ s w behind p e. none s w behind p (e ∙ take-append-drop (end - at) (drop at text)))

  pub open_block : (n : ℕ) → n ≡ length text → get_or text at 0 ≡ 47 → get_or text (at + 1) 0 ≡ 42 → None ≡ option_map (λ n. at + 2 + n) (closing_length 1 (drop (at + 2) text)) → IsPieceAt text at (piece.Refused Invalid n)
  open_block n l e f h = refused Invalid n (omega arith) (omega arith) (block_none (drop at text) (first ∙ e) (here 1 ∙ f) (sym behind_two ∙ unmapped (at + 2) (closing_length 1 (drop (at + 2) text)) h))

  pub run_end : (r : Run) (from : ℕ) → from ≤ length text → from + run_length r (drop from text) ≤ length text
  run_end r from h = omega (arith, run_within r (drop from text), length-drop from text)

  pub operator_token : (kind : TokenKind) → kind_of (get_or text at 0) ≡ Some kind → IsPieceAt text at (piece.Token kind (at + 1))
  operator_token kind h =
      let t : drop at text ≡ get_or text at 0 ∷ drop (at + 1) text = drop_more text at 0 within in
      let front : take 1 (drop at text) ≡ get_or text at 0 ∷ [] = ap (take 1) t in
      piece_of (piece.Token kind (at + 1)) text at 1 within refl (omega arith) (omega (arith, ap length t)) (subst (λ w. IsOfSort (token kind) w (drop 1 (drop at text))) (sym front) (operator_says (get_or text at 0) (drop 1 (drop at text)) kind h))

  pub no_operator : IsNoStart (get_or text at 0) → kind_of (get_or text at 0) ≡ None → HasNoPart (drop at text)
  no_operator h kind = stray_none (drop at text) (subst IsNoStart (sym first) h) (ap kind_of first ∙ kind)

  pub spaces : (end : ℕ) → is_space (get_or text at 0) ≡ true → end ≡ at + run_length run.Space (drop at text) → IsPieceAt text at (piece.Space end)
  spaces end h e = piece_of (piece.Space end) text at (run_length run.Space (drop at text)) within e (some (drop at text) (ap is_space first ∙ h)) (run_within run.Space (drop at text)) (each _ (run_all run.Space is_space (λ b n m. m) (drop at text)))
    where
      some : (t : List ℕ) → is_space (get_or t 0 0) ≡ true → 0 < run_length run.Space t
      some [] h = cc h
      some (b ∷ bs) h = let e = run_more run.Space b bs h in omega (arith, e)

      each : (w : List ℕ) → list_all is_space w ≡ true → AllByRecursion (λ b. is_space b ≡ true) w
      each [] h = tt
      each (b ∷ bs) h = let k = both (is_space b) (list_all is_space bs) h in (k.0, each bs k.1)

  module _ (word : (is_ascii_alphabetic (get_or text at 0) ≡ true) ⊎ ((get_or text at 0 ≡ 95) × (is_word_byte (get_or text (at + 1) 0) ≡ true))) where
    begins : (is_ascii_alphabetic (get_or (drop at text) 0 0) ≡ true) ⊎ ((get_or (drop at text) 0 0 ≡ 95) × (is_word_byte (get_or (drop at text) 1 0) ≡ true))
    begins = ⊎_elim (λ h. inl (ap is_ascii_alphabetic first ∙ h)) (λ h. inr (first ∙ h.0, ap is_word_byte (here 1) ∙ h.1)) word

    pub word_token : (end : ℕ) → end ≡ at + run_length run.Name (drop at text) → is_label (take (end - at) (drop at text)) ≡ true → IsPieceAt text at (piece.Token Word end)
    word_token end e h =
        let n : end - at ≡ run_length run.Name (drop at text) = omega arith in
        let s = word_says (drop at text) (ap (λ k. is_label (take k (drop at text))) (sym n) ∙ h) in
        piece_of (piece.Token Word end) text at (run_length run.Name (drop at text)) within e s.1 (run_within run.Name (drop at text)) s.0

    pub no_word : (end : ℕ) → end ≡ at + run_length run.Name (drop at text) → is_label (take (end - at) (drop at text)) ≡ false → IsPieceAt text at (piece.Refused Word end)
    no_word end e h =
        let n : end - at ≡ run_length run.Name (drop at text) = omega arith in
        refused Word end (omega (arith, word_some (drop at text) begins)) (omega (arith, e, run_end run.Name at (omega arith))) (word_none (drop at text) begins (ap (λ k. is_label (take k (drop at text))) (sym n) ∙ h))

  module _ (percent : get_or text at 0 ≡ 37) where
    one_on : drop 1 (drop at text) ≡ drop (at + 1) text
    one_on = drop-drop 1 at text

    length_on : run_length run.Name (drop 1 (drop at text)) ≡ run_length run.Name (drop (at + 1) text)
    length_on = ap (run_length run.Name) one_on

    pub escaped_token : (end : ℕ) → end ≡ at + 1 + run_length run.Name (drop (at + 1) text) → is_label (take (end - (at + 1)) (drop (at + 1) text)) ≡ true → IsPieceAt text at (piece.Token Escaped end)
    escaped_token end e h =
        let n : end - (at + 1) ≡ run_length run.Name (drop (at + 1) text) = omega arith in
        let label : is_label (take (run_length run.Name (drop 1 (drop at text))) (drop 1 (drop at text))) ≡ true = rw one_on (ap (λ k. is_label (take k (drop (at + 1) text))) (sym n) ∙ h) in
        let s = escaped_says (drop at text) (first ∙ percent) label in
        let fits = run_end run.Name (at + 1) (omega arith) in
        let all = size in let l = length_on in
        piece_of (piece.Token Escaped end) text at (1 + run_length run.Name (drop 1 (drop at text))) within (omega arith) (omega arith) (omega arith) s

    pub no_escaped : (end : ℕ) → end ≡ at + 1 + run_length run.Name (drop (at + 1) text) → is_label (take (end - (at + 1)) (drop (at + 1) text)) ≡ false → IsPieceAt text at (piece.Refused Escaped end)
    no_escaped end e h =
        let n : end - (at + 1) ≡ run_length run.Name (drop (at + 1) text) = omega arith in
        let label : is_label (take (run_length run.Name (drop 1 (drop at text))) (drop 1 (drop at text))) ≡ false = rw one_on (ap (λ k. is_label (take k (drop (at + 1) text))) (sym n) ∙ h) in
        refused Escaped end (omega arith) (omega (arith, e, run_end run.Name (at + 1) (omega arith))) (escaped_none (drop at text) (first ∙ percent) label)

  module _ (digit : is_ascii_digit (get_or text at 0) ≡ true) (end : ℕ) (ends : end ≡ at + run_length run.Digits (drop at text)) where
    digit_here : is_ascii_digit (get_or (drop at text) 0 0) ≡ true
    digit_here = ap is_ascii_digit first ∙ digit

    byte_is : get_or (drop at text) (run_length run.Digits (drop at text)) 0 ≡ get_or text end 0
    byte_is = here (run_length run.Digits (drop at text)) ∙ ap (λ k. get_or text k 0) (sym ends)

    next_is : get_or (drop at text) (run_length run.Digits (drop at text) + 1) 0 ≡ get_or text (end + 1) 0
    next_is = here (run_length run.Digits (drop at text) + 1) ∙ ap (λ k. get_or text k 0) (omega arith)

    no_version : (get_or text end 0 ≢ 46) ⊎ (is_ascii_digit (get_or text (end + 1) 0) ≡ false) → (eqb (get_or (drop at text) (run_length run.Digits (drop at text)) 0) 46 && is_ascii_digit (get_or (drop at text) (run_length run.Digits (drop at text) + 1) 0)) ≡ false
    no_version h = ap (λ b. eqb b 46 && is_ascii_digit (get_or (drop at text) (run_length run.Digits (drop at text) + 1) 0)) byte_is ∙ ap (λ b. eqb (get_or text end 0) 46 && is_ascii_digit b) next_is ∙ by h (eqb (get_or text end 0) 46) refl
      where
        by : (get_or text end 0 ≢ 46) ⊎ (is_ascii_digit (get_or text (end + 1) 0) ≡ false) → (t : Bool) → eqb (get_or text end 0) 46 ≡ t → (t && is_ascii_digit (get_or text (end + 1) 0)) ≡ false
        by (inl n) true e = absurd (n (grind arith))
        by (inl n) false e = refl
        by (inr n) true e = n
        by (inr n) false e = refl

    pub version_token : (last : ℕ) → last ≡ end + run_length run.Version (drop end text) → get_or text end 0 ≡ 46 → is_ascii_digit (get_or text (end + 1) 0) ≡ true → IsPieceAt text at (piece.Token Version last)
    version_token last e f g =
        let n = run_length run.Digits (drop at text) in
        let s = version_says (drop at text) n refl digit_here (byte_is ∙ f) (ap is_ascii_digit next_is ∙ g) in
        let on : run_length run.Version (drop n (drop at text)) ≡ run_length run.Version (drop end text) = ap (run_length run.Version) (drop-drop n at text ∙ ap (λ k. drop k text) (sym ends)) in
        let fits = run_end run.Digits at (omega arith) in
        let more = run_end run.Version end (omega arith) in
        let all = size in let some = s.1 in
        piece_of (piece.Token Version last) text at (n + run_length run.Version (drop n (drop at text))) within (omega arith) (omega arith) (omega arith) s.0

    pub integer_token : (get_or text end 0 ≢ 46) ⊎ (is_ascii_digit (get_or text (end + 1) 0) ≡ false) → is_word_byte (get_or text end 0) ≡ false → IsPieceAt text at (piece.Token Integer end)
    integer_token h f = piece_of (piece.Token Integer end) text at (run_length run.Digits (drop at text)) within ends (digits_some (drop at text) digit_here) (run_within run.Digits (drop at text))
        (integer_says (drop at text) (run_length run.Digits (drop at text)) refl digit_here (no_version h) (ap is_word_byte byte_is ∙ f))

    pub no_number : (last : ℕ) → last ≡ at + run_length run.Name (drop at text) → (get_or text end 0 ≢ 46) ⊎ (is_ascii_digit (get_or text (end + 1) 0) ≡ false) → is_word_byte (get_or text end 0) ≡ true → IsPieceAt text at (piece.Refused Word last)
    no_number last e h f = refused Word last (omega (arith, digits_in_name (drop at text) digit_here)) (omega (arith, e, run_end run.Name at (omega arith))) (number_none (drop at text) (run_length run.Digits (drop at text)) refl digit_here (no_version h) (ap is_word_byte byte_is ∙ f))

  pub stray_piece : (end last : ℕ) → end ≡ at + run_length run.Foreign (drop at text) → last ≡ max end (at + 1) → HasNoPart (drop at text) → IsPieceAt text at (piece.Refused Invalid last)
  stray_piece end last e f none = refused Invalid last (omega arith) (omega (arith, run_end run.Foreign at (omega arith))) none
