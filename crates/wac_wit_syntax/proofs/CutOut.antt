-- The tokens of a text can be cut out of it: each part begins with an ASCII byte.
use Rattle.std.proofs.Common.{◌≡◌, ℕ, zero, suc, ◌+◌, ◌-◌, ◌<◌, ◌≤◌, Bool, true, false, ◌&&◌, ◌==◌, if◌then◌else◌, List, [], ◌∷◌, ◌++◌, Option, None, length, get_or, drop, take, slice_get, slice_range, unwrap_or, refl, sym, ap, ◌∙◌, subst, inl, inr, arith, add-zero, length-append, length-drop}
use Rattle.std.specs.Char.{is_ascii_alphabetic, is_ascii_digit}
use Rattle.std.specs.List.{list_all, slice_split, starts_with}
use Rattle.std.specs.Str.{IsCharBoundary, IsUtf8}
use Rattle.std.proofs.lemmas.Bool.Decides.{nat_tests}
use Rattle.std.proofs.lemmas.List.{drop-drop, drop_at, get_or-drop}
use Rattle.std.proofs.lemmas.Str.{IsCharBoundary-after_ascii, IsCharBoundary-before_ascii, IsCharBoundary-end}
use Rattle.std.proofs.Math.Seq.{take-append_seam}
use Rattle.wac_wit_syntax.specs.Bytes.{is_dash, is_space}
use Rattle.wac_wit_syntax.specs.Comments.{inside_text}
use Rattle.wac_wit_syntax.specs.Completing.{AreCutOut, IsCutOut}
use Rattle.wac_wit_syntax.specs.Names.{is_fragment, is_label}
use Rattle.wac_wit_syntax.specs.Parts.{IsCut, IsOfSort, IsRead, Part, PartSort, docs_after, first_place, mark, spelled, token, token_of, tokens_of, white}
use Rattle.wac_wit_syntax.specs.Tokens.{IsToken, is_integer}
use Rattle.wac_wit_syntax.specs.declared.positions.Span.{Span}
use Rattle.wac_wit_syntax.specs.declared.token.Token.{Token}
use Rattle.wac_wit_syntax.specs.declared.token.TokenKind.{TokenKind}
use Rattle.wac_wit_syntax.specs.declared.token.TokenKind.TheVariants.{Word, Escaped, Integer, Version, Underscore, Equals, Comma, Colon, Semicolon, OpenParen, CloseParen, OpenBrace, CloseBrace, OpenAngle, CloseAngle, Star, Arrow, Slash, Dot, At, Invalid, End}
use Rattle.wac_wit_syntax.proofs.Runs.{both}

-- ---- how a part begins

abbrev pub Starts : List ℕ → Type 0
Starts w = (0 < length w) × (get_or w 0 0 < 128)

written : (w v : List ℕ) → w ≡ v → Starts v → Starts w
written w v e h = subst Starts (sym e) h

letter_small : (b : ℕ) → is_ascii_alphabetic b ≡ true → b < 128
letter_small b h = grind (arith, nat_tests)

digit_small : (b : ℕ) → is_ascii_digit b ≡ true → b < 128
digit_small b h = grind (arith, nat_tests)

space_small : (b : ℕ) → is_space b ≡ true → b < 128
space_small b h = grind (arith, nat_tests)

label_starts : (w : List ℕ) → is_label w ≡ true → Starts w
label_starts [] h = absurd (let f : false ≡ true = h in cc)
label_starts (b ∷ bs) h = (omega arith, letter_small b (both (is_ascii_alphabetic b) (list_all is_fragment (slice_split is_dash (b ∷ bs))) h).0)

integer_starts : (w : List ℕ) → is_integer w ≡ true → Starts w
integer_starts [] h = absurd (let f : false ≡ true = h in cc)
integer_starts (b ∷ bs) h = (omega arith, digit_small b (both (is_ascii_digit b) (list_all is_ascii_digit bs) h).0)

starts_more : (w more : List ℕ) → Starts w → Starts (w ++ more)
starts_more [] more h = absurd (omega (arith, h.0))
starts_more (b ∷ bs) more h = (omega arith, h.1)

token_starts : (kind : TokenKind) (w : List ℕ) → IsToken kind w → Starts w
token_starts Equals w h = written w (61 ∷ []) h (omega arith, omega arith)
token_starts Comma w h = written w (44 ∷ []) h (omega arith, omega arith)
token_starts Colon w h = written w (58 ∷ []) h (omega arith, omega arith)
token_starts Semicolon w h = written w (59 ∷ []) h (omega arith, omega arith)
token_starts OpenParen w h = written w (40 ∷ []) h (omega arith, omega arith)
token_starts CloseParen w h = written w (41 ∷ []) h (omega arith, omega arith)
token_starts OpenBrace w h = written w (123 ∷ []) h (omega arith, omega arith)
token_starts CloseBrace w h = written w (125 ∷ []) h (omega arith, omega arith)
token_starts OpenAngle w h = written w (60 ∷ []) h (omega arith, omega arith)
token_starts CloseAngle w h = written w (62 ∷ []) h (omega arith, omega arith)
token_starts Star w h = written w (42 ∷ []) h (omega arith, omega arith)
token_starts Arrow w h = written w (45 ∷ 62 ∷ []) h (omega arith, omega arith)
token_starts Slash w h = written w (47 ∷ []) h (omega arith, omega arith)
token_starts Dot w h = written w (46 ∷ []) h (omega arith, omega arith)
token_starts At w h = written w (64 ∷ []) h (omega arith, omega arith)
token_starts Underscore w h = written w (95 ∷ []) h (omega arith, omega arith)
token_starts Word w h = label_starts w h
token_starts Escaped w h = written w (37 ∷ h.0) h.1 (omega arith, omega arith)
token_starts Integer w h = integer_starts w h
token_starts Version w h = written w (h.0 ++ 46 ∷ h.1) h.2 (starts_more h.0 (46 ∷ h.1) (integer_starts h.0 h.3))
token_starts Invalid w h = absurd h
token_starts End w h = absurd h

part_starts : (sort : PartSort) (w behind : List ℕ) → IsOfSort sort w behind → Starts w
part_starts white w behind (inl h) = written w (h.0 ∷ []) h.1 (omega arith, space_small h.0 h.2)
part_starts white w behind (inr (inl h)) = written w (47 ∷ 47 ∷ h.0) h.1 (omega arith, omega arith)
part_starts white w behind (inr (inr h)) = written w (47 ∷ 42 ∷ inside_text h.0) h.2 (omega arith, omega arith)
part_starts (token kind) w behind h = token_starts kind w h.0

-- behind its `%` a name has a byte at least
escaped_longer : (w : List ℕ) → IsToken Escaped w → 1 < length w
escaped_longer w h = let l = label_starts h.0 h.2 in let n = ap length h.1 in omega (arith, l.0, n)

-- ---- where parts begin and end

starts_at : (text : List ℕ) (at : ℕ) (w behind : List ℕ) → w ++ behind ≡ drop at text → Starts w → (at < length text) × (get_or text at 0 < 128)
starts_at text at [] behind e h = absurd (omega (arith, h.0))
starts_at text at (b ∷ bs) behind e h =
    let n : length (b ∷ bs ++ behind) ≡ length text - at = ap length e ∙ length-drop at text in
    let first : get_or text at 0 ≡ b = ap (λ k. get_or text k 0) (sym (add-zero at)) ∙ sym (get_or-drop at text 0 0) ∙ sym (ap (λ t. get_or t 0 0) e) in
    (omega (arith, n), subst (λ x. x < 128) (sym first) h.1)

boundary_at : (text : List ℕ) (at : ℕ) (ps : List Part) → at ≤ length text → IsCut ps (drop at text) → IsCharBoundary text at
boundary_at text at [] within h =
    let n : 0 ≡ length text - at = ap length h.0 ∙ length-drop at text in
    let same : length text ≡ at = omega (arith, n, within) in
    subst (IsCharBoundary text) same (IsCharBoundary-end text)
boundary_at text at (p ∷ ps) within h = let s = starts_at text at p.text (spelled ps) h.0 (part_starts p.sort p.text (spelled ps) h.1.0) in IsCharBoundary-before_ascii text at s.0 s.1

rest_cut : (text : List ℕ) (at : ℕ) (p : Part) (ps : List Part) → IsCut (p ∷ ps) (drop at text) → IsCut ps (drop (at + length p.text) text)
rest_cut text at p ps h = (sym (drop_at p.text (spelled ps) (length p.text) refl) ∙ ap (drop (length p.text)) h.0 ∙ drop-drop (length p.text) at text, h.1.1)

rest_within : (text : List ℕ) (at : ℕ) (p : Part) (ps : List Part) → at ≤ length text → IsCut (p ∷ ps) (drop at text) → at + length p.text ≤ length text
rest_within text at p ps within h =
    let n : length p.text + length (spelled ps) ≡ length text - at = sym (length-append p.text (spelled ps)) ∙ ap length h.0 ∙ length-drop at text in
    omega (arith, n, within)

-- ---- tokens

abbrev pub end_of : List ℕ → Token
end_of text = record { kind = End; span = record { start = length text; end = length text }; docs = None }

end_cut_out : (text : List ℕ) (at : ℕ) (docs : Option Span) → IsCharBoundary text at → IsCutOut text (record { kind = End; span = record { start = at; end = at }; docs = docs })
end_cut_out text at docs b = record { whole = record { ordered = omega arith; begins = b; ends = b }; escaped = λ e. absurd (let f : End ≡ Escaped = e in cc); digits = λ e. absurd (let f : End ≡ Integer = e in cc) }

text_between : (text : List ℕ) (at : ℕ) (w behind : List ℕ) → w ++ behind ≡ drop at text → slice_range text at (at + length w) ≡ w
text_between text at w behind e =
    let n : at + length w - at ≡ length w = omega arith in
    ap (λ m. take m (drop at text)) n ∙ ap (take (length w)) (sym e) ∙ take-append_seam w behind

token_cut_out : (text : List ℕ) (at : ℕ) (docs : Option Span) (kind : TokenKind) (w behind : List ℕ) → IsUtf8 text → w ++ behind ≡ drop at text → IsToken kind w → IsCharBoundary text (at + length w)
    → IsCutOut text (record { kind = kind; span = record { start = at; end = at + length w }; docs = docs })
token_cut_out text at docs kind w behind utf8 e h ends =
    let s = starts_at text at w behind e (token_starts kind w h) in
    record {
      whole = record { ordered = omega arith; begins = IsCharBoundary-before_ascii text at s.0 s.1; ends = ends };
      escaped = λ k. (let n = escaped_longer w (subst (λ x. IsToken x w) k h) in (omega (arith, n), IsCharBoundary-after_ascii text at utf8 s.0 s.1));
      digits = λ k. subst (λ v. is_integer v ≡ true) (sym (text_between text at w behind e)) (subst (λ x. IsToken x w) k h);
    }

one_more : (text : List ℕ) (at : ℕ) (docs : Option Span) (sort : PartSort) (w behind : List ℕ) (more : List Token) → IsUtf8 text → w ++ behind ≡ drop at text → IsOfSort sort w behind → IsCharBoundary text (at + length w)
    → ((i : ℕ) → IsCutOut text (unwrap_or (slice_get more i) (end_of text))) → (i : ℕ) → IsCutOut text (unwrap_or (slice_get (token_of at docs sort w ++ more) i) (end_of text))
one_more text at docs white w behind more utf8 e h ends rest i = rest i
one_more text at docs (token kind) w behind more utf8 e h ends rest zero = token_cut_out text at docs kind w behind utf8 e h.0 ends
one_more text at docs (token kind) w behind more utf8 e h ends rest (suc i) = rest i

tokens_cut_out : (text : List ℕ) (ps : List Part) (at : ℕ) (docs : Option Span) → IsUtf8 text → at ≤ length text → IsCut ps (drop at text) → (i : ℕ) → IsCutOut text (unwrap_or (slice_get (tokens_of at docs ps) i) (end_of text))
tokens_cut_out text [] at docs utf8 within h zero = end_cut_out text at docs (boundary_at text at [] within h)
tokens_cut_out text [] at docs utf8 within h (suc i) = end_cut_out text (length text) None (IsCharBoundary-end text)
tokens_cut_out text (p ∷ ps) at docs utf8 within h i =
    let more = rest_cut text at p ps h in
    let inside = rest_within text at p ps within h in
    one_more text at docs p.sort p.text (spelled ps) (tokens_of (at + length p.text) (docs_after at docs p.sort p.text) ps) utf8 h.0 h.1.0 (boundary_at text (at + length p.text) ps inside more)
    (λ k. tokens_cut_out text ps (at + length p.text) (docs_after at docs p.sort p.text) utf8 inside more k) i

-- ---- whole texts

three_at_most : (b : Bool) → (if b then 3 else 0) ≤ 3
three_at_most true = omega arith
three_at_most false = omega arith

none_of_one : (b : Bool) (n : ℕ) → (if (b && false) then 3 else 0) ≤ n
none_of_one true n = omega arith
none_of_one false n = omega arith

none_of_two : (b c : Bool) (n : ℕ) → (if (b && (c && false)) then 3 else 0) ≤ n
none_of_two true true n = omega arith
none_of_two true false n = omega arith
none_of_two false c n = omega arith

first_within : (text : List ℕ) → first_place text ≤ length text
first_within [] = omega arith
first_within (a ∷ []) = none_of_one _ 1
first_within (a ∷ b ∷ []) = none_of_two _ _ 2
first_within (a ∷ b ∷ c ∷ rest) = let m : first_place (a ∷ b ∷ c ∷ rest) ≤ 3 = three_at_most (starts_with (λ x y. x == y) (a ∷ b ∷ c ∷ rest) mark) in omega (arith, m)

pub are_cut_out : (text : List ℕ) (tokens : List Token) → IsUtf8 text → IsRead text tokens → AreCutOut (record { text = text; tokens = tokens })
are_cut_out text tokens utf8 r i =
    let all = tokens_cut_out text r.parts (first_place text) None utf8 (first_within text) r.cut i in
    subst (λ (ts : List Token). IsCutOut text (unwrap_or (slice_get ts i) (end_of text))) (sym r.tokens_are) all
