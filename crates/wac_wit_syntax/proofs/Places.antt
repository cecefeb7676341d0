-- Lines and columns, a byte on.
use Rattle.std.proofs.Common.{◌≡◌, ◌≢◌, ℕ, ◌+◌, ◌==◌, List, [], ◌∷◌, ◌++◌, ◌<◌, length, take, get_or, count_by, refl, sym, ap, ◌∙◌, inr, arith, append_assoc, append-nil, eqb, Bool, true, false, cond}
use Rattle.std.specs.List.{AllByRecursion}
use Rattle.std.proofs.lemmas.List.{length_push, take_more}
use Rattle.std.proofs.lemmas.List.Sums.{sum_by-append}
use Rattle.wac_wit_syntax.specs.Positions.{EndsAt}

abbrev pick : Bool → ℕ
pick t = cond t 1 0

abbrev newline : ℕ → ℕ
newline b = pick (b == 10)

none_more : (bs : List ℕ) (b : ℕ) → AllByRecursion (λ b. b ≢ 10) bs → b ≢ 10 → AllByRecursion (λ b. b ≢ 10) (bs ++ b ∷ [])
none_more [] b h k = (k, tt)
none_more (x ∷ xs) b h k = (h.0, none_more xs b h.1 k)

none_counted : (bs : List ℕ) → AllByRecursion (λ b. b ≢ 10) bs → count_by (λ b. b == 10) bs ≡ 0
none_counted [] h = refl
none_counted (b ∷ bs) h =
    let e : eqb b 10 ≡ false = not_ten b h.0 (eqb b 10) refl in
    let f : newline b ≡ 0 = ap (λ t. pick t) e in
    sum_by-append newline (b ∷ []) bs ∙ (let g = none_counted bs h.1 in omega (arith, f, g))
  where
    not_ten : (b : ℕ) → b ≢ 10 → (t : Bool) → eqb b 10 ≡ t → t ≡ false
    not_ten b h true e = absurd (h (grind arith))
    not_ten b h false e = refl

pub place_line : (text : List ℕ) (line column : ℕ) → EndsAt text line column → EndsAt (text ++ 10 ∷ []) (line + 1) 1
place_line text line column p = record {
  lines = text ++ 10 ∷ [];
  front = [];
  text_is = sym (append-nil _);
  whole = inr (text, refl);
  unended = tt;
  line_is =
      let e : count_by (λ b. b == 10) (text ++ 10 ∷ []) ≡ count_by (λ b. b == 10) text + 1 = sum_by-append newline text (10 ∷ []) in
      let f : count_by (λ b. b == 10) text ≡ count_by (λ b. b == 10) p.lines + count_by (λ b. b == 10) p.front = ap (count_by (λ b. b == 10)) p.text_is ∙ sum_by-append newline p.lines p.front in
      let g = none_counted p.front p.unended in
      let h = p.line_is in
      omega (arith, e, f, g, h);
  column_is = refl;
}

pub place_column : (text : List ℕ) (b line column : ℕ) → b ≢ 10 → EndsAt text line column → EndsAt (text ++ b ∷ []) line (column + 1)
place_column text b line column h p = record {
  lines = p.lines;
  front = p.front ++ b ∷ [];
  text_is = ap (λ t. t ++ b ∷ []) p.text_is ∙ append_assoc p.lines p.front (b ∷ []);
  whole = p.whole;
  unended = none_more p.front b p.unended h;
  line_is = p.line_is;
  column_is = omega (arith, p.column_is, length_push p.front b);
}

-- the same at an index of a text
pub place_line_at : (text : List ℕ) (i line column line' column' : ℕ) → i < length text → get_or text i 0 ≡ 10 → line' ≡ line + 1 → column' ≡ 1 → EndsAt (take i text) line column → EndsAt (take (i + 1) text) line' column'
place_line_at text i line column line' column' h e f g p =
    let more : take (i + 1) text ≡ take i text ++ 10 ∷ [] = take_more text i 0 h ∙ ap (λ b. take i text ++ b ∷ []) e in
    rw (more, f, g) (place_line (take i text) line column p)

pub place_column_at : (text : List ℕ) (i line column line' column' : ℕ) → i < length text → get_or text i 0 ≢ 10 → line' ≡ line → column' ≡ column + 1 → EndsAt (take i text) line column → EndsAt (take (i + 1) text) line' column'
place_column_at text i line column line' column' h e f g p =
    let more : take (i + 1) text ≡ take i text ++ get_or text i 0 ∷ [] = take_more text i 0 h in
    rw (more, f, g) (place_column (take i text) (get_or text i 0) line column e p)
