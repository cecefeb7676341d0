-- A part by the grammar is what the recursion finds at its front: so at a place stands one part at most.
use Rattle.std.proofs.Common.{◌≡◌, ◌≢◌, ℕ, suc, ◌+◌, ◌<◌, ◌≤◌, Bool, true, false, cond, not, ◌&&◌, ◌||◌, ◌⊎◌, List, [], ◌∷◌, ◌++◌, Some, None, option_map, length, get_or, take, drop, eqb, refl, sym, ap, ◌∙◌, inl, inr, arith, add-zero, append_assoc, length-append}
use Rattle.std.specs.Char.{is_ascii_alphabetic, is_ascii_alphanumeric, is_ascii_digit}
use Rattle.std.specs.List.{AllByRecursion, list_all, slice_split}
use Rattle.std.proofs.lemmas.Bool.Decides.{nat_tests}
use Rattle.std.proofs.lemmas.List.{drop_at, get_or-append-add, take_at}
use Rattle.wac_wit_syntax.specs.Bytes.{is_dash, is_dot, is_lower_or_digit, is_nonempty, is_space, is_upper_or_digit, is_version_byte, is_word_byte}
use Rattle.wac_wit_syntax.specs.Comments.{EndsLine}
use Rattle.wac_wit_syntax.specs.Names.{is_fragment, is_label}
use Rattle.wac_wit_syntax.specs.Parts.{HasNoPart, IsOfSort, IsWhitespace, PartSort, token, white}
use Rattle.wac_wit_syntax.specs.Reading.{goes_on, run_length}
use Rattle.wac_wit_syntax.specs.Tokens.{IsToken, IsWhole, begins_comment, integer_goes_on, is_identifier, is_integer, name_goes_on, version_goes_on}
use Rattle.wac_wit_syntax.specs.declared.scanning.Run.TheVariants as run
use Rattle.wac_wit_syntax.specs.declared.token.TokenKind.{TokenKind}
use Rattle.wac_wit_syntax.specs.declared.token.TokenKind.TheVariants.{Word, Escaped, Integer, Version, Underscore, Equals, Comma, Colon, Semicolon, OpenParen, CloseParen, OpenBrace, CloseBrace, OpenAngle, CloseAngle, Star, Arrow, Slash, Dot, At, Invalid, End}
use Rattle.wac_wit_syntax.proofs.Balanced.{closing_comment}
use Rattle.wac_wit_syntax.proofs.FirstPart.{Found, first_part, kind_by, name_part, number_part, part_by}
use Rattle.wac_wit_syntax.proofs.Labels.{IsPiece, least_of_pieces, pieces_from_all, run_of_pieces}
use Rattle.wac_wit_syntax.proofs.Runs.{Stops, all_weaker, both, either, least_of_all, neither, run_more, run_of_all}

-- ---- names

pub lower_is : (b : ℕ) → is_lower_or_digit b ≡ true → is_ascii_alphanumeric b ≡ true
lower_is b h = grind (arith, nat_tests)

pub upper_is : (b : ℕ) → is_upper_or_digit b ≡ true → is_ascii_alphanumeric b ≡ true
upper_is b h = grind (arith, nat_tests)

fragment_piece : (w : List ℕ) → is_fragment w ≡ true → IsPiece is_ascii_alphanumeric w
fragment_piece [] h = cc h
fragment_piece (b ∷ bs) h = both (is_ascii_alphanumeric b) (list_all is_ascii_alphanumeric bs) (by (either (list_all is_lower_or_digit (b ∷ bs)) (list_all is_upper_or_digit (b ∷ bs)) h))
  where
    by : (list_all is_lower_or_digit (b ∷ bs) ≡ true) ⊎ (list_all is_upper_or_digit (b ∷ bs) ≡ true) → list_all is_ascii_alphanumeric (b ∷ bs) ≡ true
    by (inl k) = all_weaker is_lower_or_digit is_ascii_alphanumeric lower_is (b ∷ bs) k
    by (inr k) = all_weaker is_upper_or_digit is_ascii_alphanumeric upper_is (b ∷ bs) k

fragments_pieces : (ps : List (List ℕ)) → list_all is_fragment ps ≡ true → AllByRecursion (IsPiece is_ascii_alphanumeric) ps
fragments_pieces [] h = tt
fragments_pieces (p ∷ ps) h = let k = both (is_fragment p) (list_all is_fragment ps) h in (fragment_piece p k.0, fragments_pieces ps k.1)

stops_name : (behind : List ℕ) → name_goes_on behind ≡ false → Stops run.Name behind
stops_name [] h = tt
stops_name (b ∷ bs) h = h

word_goes_on : (b n : ℕ) → is_ascii_alphanumeric b ≡ true → goes_on run.Name b n ≡ true
word_goes_on b n h = ap (λ t. (t || eqb b 95) || (eqb b 45 && not (eqb n 62))) h

dash_goes_on : (n : ℕ) → is_ascii_alphanumeric n ≡ true → goes_on run.Name 45 n ≡ true
dash_goes_on n h = grind (arith, nat_tests)

pub label_run : (w behind : List ℕ) → is_label w ≡ true → name_goes_on behind ≡ false → run_length run.Name (w ++ behind) ≡ length w
label_run w behind h s =
    let k = both (is_ascii_alphabetic (get_or w 0 0)) (list_all is_fragment (slice_split is_dash w)) h in
    run_of_pieces is_ascii_alphanumeric 45 run.Name word_goes_on dash_goes_on w behind (pieces_from_all is_ascii_alphanumeric _ (fragments_pieces (slice_split is_dash w) k.1)) (stops_name behind s)

name_found : (k : TokenKind) (before : ℕ) (w behind : List ℕ) → is_label w ≡ true → name_goes_on behind ≡ false → name_part k before (w ++ behind) ≡ Some (token k, before + length w)
name_found k before w behind h s =
    ap (λ n. cond (is_label (take n (w ++ behind))) (Some (token k, before + n)) None) (label_run w behind h s)
    ∙ ap (λ v. cond (is_label v) (Some (token k, before + length w)) None) (take_at w behind (length w) refl)
    ∙ ap (λ t. cond t (Some (token k, before + length w)) None) h

-- ---- what the first byte tells

pub record IsOther (b : ℕ) : Type 0 where
  pub space : is_space b ≡ false
  pub slash : eqb b 47 ≡ false
  pub dash : eqb b 45 ≡ false
  pub percent : eqb b 37 ≡ false

letter_other : (b : ℕ) → is_ascii_alphabetic b ≡ true → IsOther b
letter_other b h = record { space = grind (arith, nat_tests); slash = grind (arith, nat_tests); dash = grind (arith, nat_tests); percent = grind (arith, nat_tests) }

digit_other : (b : ℕ) → is_ascii_digit b ≡ true → IsOther b
digit_other b h = record { space = grind (arith, nat_tests); slash = grind (arith, nat_tests); dash = grind (arith, nat_tests); percent = grind (arith, nat_tests) }

letter_no_digit : (b : ℕ) → is_ascii_alphabetic b ≡ true → is_ascii_digit b ≡ false
letter_no_digit b h = grind (arith, nat_tests)

pub at_other : (b c : ℕ) (text : List ℕ) → IsOther b → part_by b c text ≡ cond (is_ascii_digit b) (number_part (run_length run.Digits text) text) (cond (is_ascii_alphabetic b || (eqb b 95 && is_word_byte c)) (name_part Word 0 text) (option_map (λ kind. (token kind, 1)) (kind_by b)))
at_other b c text o = rw (o.space, o.slash, o.dash, o.percent) refl

pub at_letter : (b c : ℕ) (text : List ℕ) → is_ascii_alphabetic b ≡ true → part_by b c text ≡ name_part Word 0 text
at_letter b c text h = at_other b c text (letter_other b h) ∙ rw (letter_no_digit b h, h) refl

pub at_digit : (b c : ℕ) (text : List ℕ) → is_ascii_digit b ≡ true → part_by b c text ≡ number_part (run_length run.Digits text) text
at_digit b c text h = at_other b c text (digit_other b h) ∙ rw h refl

-- ---- numbers

seam : (w behind : List ℕ) → get_or (w ++ behind) (length w) 0 ≡ get_or behind 0 0
seam w behind = ap (λ n. get_or (w ++ behind) n 0) (sym (add-zero (length w))) ∙ get_or-append-add w behind 0 0

no_digit : (b : ℕ) → is_word_byte b ≡ false → is_ascii_digit b ≡ false
no_digit b h = grind (arith, nat_tests)

stops_integer : (behind : List ℕ) → integer_goes_on behind ≡ false → Stops run.Digits behind
stops_integer [] h = tt
stops_integer (b ∷ bs) h = no_digit b (neither (eqb b 46 && is_ascii_digit (get_or bs 0 0)) (is_word_byte b) h).1

integer_found : (w behind : List ℕ) → is_integer w ≡ true → integer_goes_on behind ≡ false → number_part (run_length run.Digits (w ++ behind)) (w ++ behind) ≡ Some (token Integer, length w)
integer_found w behind h s =
    let k = both (is_nonempty w) (list_all is_ascii_digit w) h in
    let e : run_length run.Digits (w ++ behind) ≡ length w = run_of_all run.Digits is_ascii_digit (λ b n m. m) w behind k.1 (stops_integer behind s) in
    let t = neither (eqb (get_or behind 0 0) 46 && is_ascii_digit (get_or behind 1 0)) (is_word_byte (get_or behind 0 0)) s in
    let version = Some (token Version, length w + run_length run.Version (drop (length w) (w ++ behind))) in
    ap (λ n. number_part n (w ++ behind)) e
    ∙ ap (λ b. cond (eqb b 46 && is_ascii_digit (get_or (w ++ behind) (length w + 1) 0)) version (cond (is_word_byte b) None (Some (token Integer, length w)))) (seam w behind)
    ∙ ap (λ b. cond (eqb (get_or behind 0 0) 46 && is_ascii_digit b) version (cond (is_word_byte (get_or behind 0 0)) None (Some (token Integer, length w)))) (get_or-append-add w behind 1 0)
    ∙ ap (λ t. cond t version (cond (is_word_byte (get_or behind 0 0)) None (Some (token Integer, length w)))) t.0
    ∙ ap (λ t. cond t None (Some (token Integer, length w))) t.1

identifier_piece : (w : List ℕ) → is_identifier w ≡ true → IsPiece is_version_byte w
identifier_piece [] h = cc h
identifier_piece (b ∷ bs) h = both (is_version_byte b) (list_all is_version_byte bs) h

identifiers_pieces : (ps : List (List ℕ)) → list_all is_identifier ps ≡ true → AllByRecursion (IsPiece is_version_byte) ps
identifiers_pieces [] h = tt
identifiers_pieces (p ∷ ps) h = let k = both (is_identifier p) (list_all is_identifier ps) h in (identifier_piece p k.0, identifiers_pieces ps k.1)

stops_version : (behind : List ℕ) → version_goes_on behind ≡ false → Stops run.Version behind
stops_version [] h = tt
stops_version (b ∷ bs) h = h

version_byte_on : (b n : ℕ) → is_version_byte b ≡ true → goes_on run.Version b n ≡ true
version_byte_on b n h = ap (λ t. t || (eqb b 46 && is_version_byte n)) h

dot_on : (n : ℕ) → is_version_byte n ≡ true → goes_on run.Version 46 n ≡ true
dot_on n h = h

pub digit_in_version : (b : ℕ) → is_ascii_digit b ≡ true → is_version_byte b ≡ true
digit_in_version b h = grind (arith, nat_tests)

first_kept : (rest behind : List ℕ) → is_ascii_digit (get_or rest 0 0) ≡ true → get_or (rest ++ behind) 0 0 ≡ get_or rest 0 0
first_kept [] behind h = cc h
first_kept (b ∷ bs) behind h = refl

version_cut : (number rest behind : List ℕ) → is_integer number ≡ true → is_ascii_digit (get_or rest 0 0) ≡ true
    → number_part (run_length run.Digits (number ++ 46 ∷ (rest ++ behind))) (number ++ 46 ∷ (rest ++ behind)) ≡ Some (token Version, length number + suc (run_length run.Version (rest ++ behind)))
version_cut number rest behind h d =
    let text = number ++ 46 ∷ (rest ++ behind) in
    let k = both (is_nonempty number) (list_all is_ascii_digit number) h in
    let e : run_length run.Digits text ≡ length number = run_of_all run.Digits is_ascii_digit (λ b n m. m) number (46 ∷ (rest ++ behind)) k.1 refl in
    let digit : is_ascii_digit (get_or (rest ++ behind) 0 0) ≡ true = ap is_ascii_digit (first_kept rest behind d) ∙ d in
    let found = Some (token Version, length number + run_length run.Version (drop (length number) text)) in
    let other = λ (b : ℕ). cond (is_word_byte b) None (Some (token Integer, length number)) in
    ap (λ n. number_part n text) e
    ∙ ap (λ b. cond (eqb b 46 && is_ascii_digit (get_or text (length number + 1) 0)) found (other b)) (seam number (46 ∷ (rest ++ behind)))
    ∙ ap (λ b. cond (is_ascii_digit b) found (other 46)) (get_or-append-add number (46 ∷ (rest ++ behind)) 1 0)
    ∙ ap (λ t. cond t found (other 46)) digit
    ∙ ap (λ v. Some (token Version, length number + run_length run.Version v)) (drop_at number (46 ∷ (rest ++ behind)) (length number) refl)
    ∙ ap (λ n. Some (token Version, length number + n)) (run_more run.Version 46 (rest ++ behind) (dot_on (get_or (rest ++ behind) 0 0) (digit_in_version (get_or (rest ++ behind) 0 0) digit)))

version_found : (number rest behind : List ℕ) → is_integer number ≡ true → is_ascii_digit (get_or rest 0 0) ≡ true → list_all is_identifier (slice_split is_dot rest) ≡ true → version_goes_on behind ≡ false
    → number_part (run_length run.Digits (number ++ 46 ∷ (rest ++ behind))) (number ++ 46 ∷ (rest ++ behind)) ≡ Some (token Version, length number + suc (length rest))
version_found number rest behind h d i s =
    let r : run_length run.Version (rest ++ behind) ≡ length rest = run_of_pieces is_version_byte 46 run.Version version_byte_on dot_on rest behind (pieces_from_all is_version_byte _ (identifiers_pieces (slice_split is_dot rest) i)) (stops_version behind s) in
    version_cut number rest behind h d ∙ ap (λ n. Some (token Version, length number + suc n)) r

-- ---- comments and white space

not_newline : (line : List ℕ) → AllByRecursion (λ b. b ≢ 10) line → list_all (λ b. not (eqb b 10)) line ≡ true
not_newline [] h = refl
not_newline (b ∷ bs) h = by b bs h.0 (eqb b 10) refl (not_newline bs h.1)
  where
    by : (b : ℕ) (bs : List ℕ) → b ≢ 10 → (t : Bool) → eqb b 10 ≡ t → list_all (λ b. not (eqb b 10)) bs ≡ true → (not t && list_all (λ b. not (eqb b 10)) bs) ≡ true
    by b bs n true e h = absurd (n (grind arith))
    by b bs n false e h = h

stops_line : (behind : List ℕ) → EndsLine behind → Stops run.Line behind
stops_line [] h = tt
stops_line (b ∷ bs) h = ap (λ x. not (eqb x 10)) h

space_found : (b : ℕ) (behind : List ℕ) → is_space b ≡ true → first_part (b ∷ behind) ≡ Some (white, 1)
space_found b behind h = rw h refl

line_found : (line behind : List ℕ) → AllByRecursion (λ b. b ≢ 10) line → EndsLine behind → first_part (47 ∷ 47 ∷ (line ++ behind)) ≡ Some (white, suc (suc (length line)))
line_found line behind h s = ap (λ n. Some (white, suc (suc n))) (run_of_all run.Line (λ b. not (eqb b 10)) (λ b n m. m) line behind (not_newline line h) (stops_line behind s))

white_found : (w behind : List ℕ) → IsWhitespace w behind → first_part (w ++ behind) ≡ Some (white, length w)
white_found w behind (inl h) = rw h.1 (space_found h.0 behind h.2)
white_found w behind (inr (inl h)) = rw h.1 (line_found h.0 behind h.2 h.3)
white_found w behind (inr (inr h)) = rw h.2 (ap (option_map (λ n. (white, 2 + n))) (closing_comment h.0 behind h.1) ∙ ap (λ n. Some (white, n)) (omega arith))

-- ---- tokens

spelled_so : (k : TokenKind) (w v behind : List ℕ) → w ≡ v → first_part (v ++ behind) ≡ Some (token k, length v) → first_part (w ++ behind) ≡ Some (token k, length w)
spelled_so k w v behind h e = rw h e

word_found : (w behind : List ℕ) → is_label w ≡ true → name_goes_on behind ≡ false → first_part (w ++ behind) ≡ Some (token Word, length w)
word_found [] behind h s = cc h
word_found (b ∷ bs) behind h s =
    let k = both (is_ascii_alphabetic b) (list_all is_fragment (slice_split is_dash (b ∷ bs))) h in
    at_letter b (get_or (bs ++ behind) 0 0) (b ∷ (bs ++ behind)) k.0 ∙ name_found Word 0 (b ∷ bs) behind h s ∙ ap (λ n. Some (token Word, n)) (omega arith)

escaped_found : (label behind : List ℕ) → is_label label ≡ true → name_goes_on behind ≡ false → first_part (37 ∷ (label ++ behind)) ≡ Some (token Escaped, suc (length label))
escaped_found label behind h s = name_found Escaped 1 label behind h s ∙ ap (λ n. Some (token Escaped, n)) (omega arith)

whole_integer : (w behind : List ℕ) → is_integer w ≡ true → integer_goes_on behind ≡ false → first_part (w ++ behind) ≡ Some (token Integer, length w)
whole_integer [] behind h s = cc h
whole_integer (b ∷ bs) behind h s =
    let k = both (is_ascii_digit b) (list_all is_ascii_digit bs) h in
    at_digit b (get_or (bs ++ behind) 0 0) (b ∷ (bs ++ behind)) k.0 ∙ integer_found (b ∷ bs) behind h s

whole_version : (number rest behind : List ℕ) → is_integer number ≡ true → is_ascii_digit (get_or rest 0 0) ≡ true → list_all is_identifier (slice_split is_dot rest) ≡ true → version_goes_on behind ≡ false
    → first_part (number ++ 46 ∷ (rest ++ behind)) ≡ Some (token Version, length number + suc (length rest))
whole_version [] rest behind h d i s = cc h
whole_version (b ∷ bs) rest behind h d i s =
    let k = both (is_ascii_digit b) (list_all is_ascii_digit bs) h in
    at_digit b (get_or (bs ++ 46 ∷ (rest ++ behind)) 0 0) (b ∷ (bs ++ 46 ∷ (rest ++ behind))) k.0 ∙ version_found (b ∷ bs) rest behind h d i s

slash_found : (behind : List ℕ) → begins_comment behind ≡ false → first_part (47 ∷ behind) ≡ Some (token Slash, 1)
slash_found behind s = let t = neither (eqb (get_or behind 0 0) 47) (eqb (get_or behind 0 0) 42) s in rw (t.0, t.1) refl

underscore_found : (behind : List ℕ) → is_word_byte (get_or behind 0 0) ≡ false → first_part (95 ∷ behind) ≡ Some (token Underscore, 1)
underscore_found behind s = rw s refl

token_found : (k : TokenKind) (w behind : List ℕ) → IsToken k w → IsWhole k behind → first_part (w ++ behind) ≡ Some (token k, length w)
token_found Equals w behind h s = spelled_so Equals w (61 ∷ []) behind h refl
token_found Comma w behind h s = spelled_so Comma w (44 ∷ []) behind h refl
token_found Colon w behind h s = spelled_so Colon w (58 ∷ []) behind h refl
token_found Semicolon w behind h s = spelled_so Semicolon w (59 ∷ []) behind h refl
token_found OpenParen w behind h s = spelled_so OpenParen w (40 ∷ []) behind h refl
token_found CloseParen w behind h s = spelled_so CloseParen w (41 ∷ []) behind h refl
token_found OpenBrace w behind h s = spelled_so OpenBrace w (123 ∷ []) behind h refl
token_found CloseBrace w behind h s = spelled_so CloseBrace w (125 ∷ []) behind h refl
token_found OpenAngle w behind h s = spelled_so OpenAngle w (60 ∷ []) behind h refl
token_found CloseAngle w behind h s = spelled_so CloseAngle w (62 ∷ []) behind h refl
token_found Star w behind h s = spelled_so Star w (42 ∷ []) behind h refl
token_found Arrow w behind h s = spelled_so Arrow w (45 ∷ 62 ∷ []) behind h refl
token_found Slash w behind h s = spelled_so Slash w (47 ∷ []) behind h (slash_found behind s)
token_found Dot w behind h s = spelled_so Dot w (46 ∷ []) behind h refl
token_found At w behind h s = spelled_so At w (64 ∷ []) behind h refl
token_found Underscore w behind h s = spelled_so Underscore w (95 ∷ []) behind h (underscore_found behind s)
token_found Word w behind h s = word_found w behind h s
token_found Escaped w behind h s = spelled_so Escaped w (37 ∷ h.0) behind h.1 (escaped_found h.0 behind h.2 s)
token_found Integer w behind h s = whole_integer w behind h s
token_found Version w behind h s =
    let e : w ++ behind ≡ h.0 ++ 46 ∷ (h.1 ++ behind) = ap (λ v. v ++ behind) h.2 ∙ append_assoc h.0 (46 ∷ h.1) behind in
    let l : length h.0 + suc (length h.1) ≡ length w = sym (ap length h.2 ∙ length-append h.0 (46 ∷ h.1)) in
    ap first_part e ∙ whole_version h.0 h.1 behind h.3 h.4 h.5 s ∙ ap (λ n. Some (token Version, n)) l
token_found Invalid w behind h s = absurd h
token_found End w behind h s = absurd h

-- ---- all parts

pub part_found : (s : PartSort) (w behind : List ℕ) → IsOfSort s w behind → first_part (w ++ behind) ≡ Some (s, length w)
part_found white w behind h = white_found w behind h
part_found (token k) w behind h = token_found k w behind h.0 h.1

pub none_begins : (text : List ℕ) → first_part text ≡ None → HasNoPart text
none_begins text h s w behind p e = cc (part_found s w behind p, ap first_part e, h)

pub one_part : (s t : PartSort) (v w a b : List ℕ) → IsOfSort s v a → IsOfSort t w b → v ++ a ≡ w ++ b → (s ≡ t) × (v ≡ w) × (a ≡ b)
one_part s t v w a b p q e =
    let f : Some (s, length v) ≡ Some (t, length w) = sym (part_found s v a p) ∙ ap first_part e ∙ part_found t w b q in
    let pair : (s, length v) ≡ (t, length w) = cc f in
    let g : s ≡ t = ap (λ (x : PartSort × ℕ). x.0) pair in
    let l : length v ≡ length w = ap (λ (x : PartSort × ℕ). x.1) pair in (
      g,
      sym (take_at v a (length v) refl) ∙ ap (take (length v)) e ∙ ap (λ n. take n (w ++ b)) l ∙ take_at w b (length w) refl,
      sym (drop_at v a (length v) refl) ∙ ap (drop (length v)) e ∙ ap (λ n. drop n (w ++ b)) l ∙ drop_at w b (length w) refl,
    )

-- ---- the longest token

abbrev some_of : TokenKind → ℕ → Found
some_of k n = Some (token k, n)

abbrev size_in : Found → ℕ
size_in None = 0
size_in (Some x) = x.1

sized : (k l : TokenKind) (m n : ℕ) → some_of k m ≡ some_of l n → m ≡ n
sized k l m n h = ap size_in h

size_of_name : (t : Bool) (k l : TokenKind) (m n : ℕ) → cond t (some_of k m) None ≡ some_of l n → m ≡ n
size_of_name true k l m n h = sized k l m n h
size_of_name false k l m n h = cc h

size_of_number : (s t : Bool) (l : TokenKind) (r more n : ℕ) → cond s (some_of Version (r + more)) (cond t None (some_of Integer r)) ≡ some_of l n → r ≤ n
size_of_number true t l r more n h = let e = sized Version l (r + more) n h in omega (arith, e)
size_of_number false true l r more n h = cc h
size_of_number false false l r more n h = let e = sized Integer l r n h in omega (arith, e)

label_pieces : (w : List ℕ) → is_label w ≡ true → AllByRecursion (IsPiece is_ascii_alphanumeric) (slice_split is_dash w)
label_pieces w h = fragments_pieces (slice_split is_dash w) (both (is_ascii_alphabetic (get_or w 0 0)) (list_all is_fragment (slice_split is_dash w)) h).1

label_least : (w behind : List ℕ) → is_label w ≡ true → length w ≤ run_length run.Name (w ++ behind)
label_least w behind h = least_of_pieces is_ascii_alphanumeric 45 run.Name word_goes_on dash_goes_on w behind (pieces_from_all is_ascii_alphanumeric (slice_split is_dash w) (label_pieces w h))

longest_word : (w b : List ℕ) (l : TokenKind) (n : ℕ) → is_label w ≡ true → first_part (w ++ b) ≡ Some (token l, n) → length w ≤ n
longest_word [] b l n h e = omega arith
longest_word (x ∷ xs) b l n h e =
    let k = both (is_ascii_alphabetic x) (list_all is_fragment (slice_split is_dash (x ∷ xs))) h in
    let text = x ∷ (xs ++ b) in
    let s = size_of_name (is_label (take (run_length run.Name text) text)) Word l (0 + run_length run.Name text) n (sym (at_letter x (get_or (xs ++ b) 0 0) text k.0) ∙ e) in
    let m = label_least (x ∷ xs) b h in
    omega (arith, s, m)

longest_escaped : (w b : List ℕ) (l : TokenKind) (n : ℕ) → is_label w ≡ true → first_part (37 ∷ (w ++ b)) ≡ Some (token l, n) → suc (length w) ≤ n
longest_escaped w b l n h e =
    let s = size_of_name (is_label (take (run_length run.Name (w ++ b)) (w ++ b))) Escaped l (1 + run_length run.Name (w ++ b)) n e in
    let m = label_least w b h in
    omega (arith, s, m)

longest_integer : (w b : List ℕ) (l : TokenKind) (n : ℕ) → is_integer w ≡ true → first_part (w ++ b) ≡ Some (token l, n) → length w ≤ n
longest_integer [] b l n h e = omega arith
longest_integer (x ∷ xs) b l n h e =
    let k = both (is_ascii_digit x) (list_all is_ascii_digit xs) h in
    let text = x ∷ (xs ++ b) in
    let r = run_length run.Digits text in
    let s = size_of_number (eqb (get_or text r 0) 46 && is_ascii_digit (get_or text (r + 1) 0)) (is_word_byte (get_or text r 0)) l r (run_length run.Version (drop r text)) n (sym (at_digit x (get_or (xs ++ b) 0 0) text k.0) ∙ e) in
    let m = least_of_all run.Digits is_ascii_digit (λ b n m. m) (x ∷ xs) b h in
    omega (arith, s, m)

longest_version : (number rest b : List ℕ) (l : TokenKind) (n : ℕ) → is_integer number ≡ true → is_ascii_digit (get_or rest 0 0) ≡ true → list_all is_identifier (slice_split is_dot rest) ≡ true
    → first_part (number ++ 46 ∷ (rest ++ b)) ≡ Some (token l, n) → length number + suc (length rest) ≤ n
longest_version [] rest b l n h d i e = cc h
longest_version (x ∷ xs) rest b l n h d i e =
    let k = both (is_ascii_digit x) (list_all is_ascii_digit xs) h in
    let found = at_digit x (get_or (xs ++ 46 ∷ (rest ++ b)) 0 0) (x ∷ (xs ++ 46 ∷ (rest ++ b))) k.0 ∙ version_cut (x ∷ xs) rest b h d in
    let s = sized Version l (length (x ∷ xs) + suc (run_length run.Version (rest ++ b))) n (sym found ∙ e) in
    let m = least_of_pieces is_version_byte 46 run.Version version_byte_on dot_on rest b (pieces_from_all is_version_byte (slice_split is_dot rest) (identifiers_pieces (slice_split is_dot rest) i)) in
    omega (arith, s, m)

longest_arrow : (b : List ℕ) (l : TokenKind) (n : ℕ) → first_part (45 ∷ 62 ∷ b) ≡ Some (token l, n) → 2 ≤ n
longest_arrow b l n e = let s = sized Arrow l 2 n e in omega (arith, s)

one_long : (w : List ℕ) (x n : ℕ) → w ≡ x ∷ [] → 0 < n → length w ≤ n
one_long w x n e h = let l = ap length e in omega (arith, l)

longest_by : (k l : TokenKind) (w b : List ℕ) (n : ℕ) → IsToken k w → 0 < n → first_part (w ++ b) ≡ Some (token l, n) → length w ≤ n
longest_by Equals l w b n h s e = one_long w 61 n h s
longest_by Comma l w b n h s e = one_long w 44 n h s
longest_by Colon l w b n h s e = one_long w 58 n h s
longest_by Semicolon l w b n h s e = one_long w 59 n h s
longest_by OpenParen l w b n h s e = one_long w 40 n h s
longest_by CloseParen l w b n h s e = one_long w 41 n h s
longest_by OpenBrace l w b n h s e = one_long w 123 n h s
longest_by CloseBrace l w b n h s e = one_long w 125 n h s
longest_by OpenAngle l w b n h s e = one_long w 60 n h s
longest_by CloseAngle l w b n h s e = one_long w 62 n h s
longest_by Star l w b n h s e = one_long w 42 n h s
longest_by Arrow l w b n h s e = let m = longest_arrow b l n (ap (λ v. first_part (v ++ b)) (sym h) ∙ e) in let size = ap length h in omega (arith, m, size)
longest_by Slash l w b n h s e = one_long w 47 n h s
longest_by Dot l w b n h s e = one_long w 46 n h s
longest_by At l w b n h s e = one_long w 64 n h s
longest_by Underscore l w b n h s e = one_long w 95 n h s
longest_by Word l w b n h s e = longest_word w b l n h e
longest_by Escaped l w b n h s e = let m = longest_escaped h.0 b l n h.2 (ap (λ v. first_part (v ++ b)) (sym h.1) ∙ e) in let size = ap length h.1 in omega (arith, m, size)
longest_by Integer l w b n h s e = longest_integer w b l n h e
longest_by Version l w b n h s e =
    let text : h.0 ++ 46 ∷ (h.1 ++ b) ≡ w ++ b = sym (ap (λ v. v ++ b) h.2 ∙ append_assoc h.0 (46 ∷ h.1) b) in
    let m = longest_version h.0 h.1 b l n h.3 h.4 h.5 (ap first_part text ∙ e) in
    let size = ap length h.2 ∙ length-append h.0 (46 ∷ h.1) in
    omega (arith, m, size)
longest_by Invalid l w b n h s e = absurd h
longest_by End l w b n h s e = absurd h

nonempty : (w : List ℕ) (x : ℕ) (xs : List ℕ) → w ≡ x ∷ xs → 0 < length w
nonempty w x xs e = let l = ap length e in omega (arith, l)

not_empty : (p : List ℕ → Bool) (w : List ℕ) → p [] ≡ false → p w ≡ true → 0 < length w
not_empty p [] n h = cc (n, h)
not_empty p (x ∷ xs) n h = omega arith

some_token : (k : TokenKind) (w : List ℕ) → IsToken k w → 0 < length w
some_token Equals w h = nonempty w 61 [] h
some_token Comma w h = nonempty w 44 [] h
some_token Colon w h = nonempty w 58 [] h
some_token Semicolon w h = nonempty w 59 [] h
some_token OpenParen w h = nonempty w 40 [] h
some_token CloseParen w h = nonempty w 41 [] h
some_token OpenBrace w h = nonempty w 123 [] h
some_token CloseBrace w h = nonempty w 125 [] h
some_token OpenAngle w h = nonempty w 60 [] h
some_token CloseAngle w h = nonempty w 62 [] h
some_token Star w h = nonempty w 42 [] h
some_token Arrow w h = nonempty w 45 (62 ∷ []) h
some_token Slash w h = nonempty w 47 [] h
some_token Dot w h = nonempty w 46 [] h
some_token At w h = nonempty w 64 [] h
some_token Underscore w h = nonempty w 95 [] h
some_token Word w h = not_empty is_label w refl h
some_token Escaped w h = nonempty w 37 h.0 h.1
some_token Integer w h = not_empty is_integer w refl h
some_token Version w h = let l = ap length h.2 ∙ length-append h.0 (46 ∷ h.1) in omega (arith, l)
some_token Invalid w h = absurd h
some_token End w h = absurd h

pub longest_token : (kind other : TokenKind) (v w a b : List ℕ) → IsOfSort (token kind) v a → IsToken other w → v ++ a ≡ w ++ b → length w ≤ length v
longest_token kind other v w a b p q e = longest_by other kind w b (length v) q (some_token kind v p.0) (ap first_part (sym e) ∙ part_found (token kind) v a p)
