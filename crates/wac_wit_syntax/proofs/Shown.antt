-- The characters of a text, one by one.
use Rattle.std.proofs.Common.{◌≡◌, ℕ, ◌+◌, ◌<◌, ◌≤◌, Bool, true, false, not, ◌&&◌, ◌||◌, List, [], ◌∷◌, ◌++◌, length, get_or, drop, eqb, IsUtf8, chars, encode_utf8, encode_utf8_all, refl, sym, ap, ◌∙◌, subst, inl, arith, append_assoc, append-nil, length-append}
use Rattle.std.specs.Char.{len_utf8}
use Rattle.std.proofs.lemmas.List.{drop-drop, drop_at, get_or-drop}
use Rattle.std.proofs.lemmas.Str.{IsUtf8-past_char, byte_from_char, char_from_byte, chars_past_char, encode_ascii, encodes-append, encodes-chars, length-encode}
use Rattle.wac_wit_syntax.specs.Characters.{is_refused, is_refused_before, is_white_control, none_refused}
use Rattle.wac_wit_syntax.specs.Faults.{AreFaults, IsFault}
use Rattle.wac_wit_syntax.specs.Steps.{AddsOnly}
use Rattle.wac_wit_syntax.specs.declared.error.Refusal.{Refusal}
use Rattle.wac_wit_syntax.proofs.FaultFacts.{faults_added}

-- a text begins with a line feed where its first character is one
head_by : (bs cs : List ℕ) → encode_utf8_all cs ≡ bs → eqb (get_or bs 0 0) 10 ≡ eqb (get_or cs 0 0) 10
head_by bs [] e = ap (λ b. eqb (get_or b 0 0) 10) (sym e)
head_by bs (d ∷ ds) e = by (eqb d 10) (eqb (get_or bs 0 0) 10) refl refl
  where
    some : (bs : List ℕ) → get_or bs 0 0 ≡ 10 → 0 < length bs
    some [] h = absurd (omega arith)
    some (b ∷ bs) h = omega arith

    by : (s t : Bool) → eqb d 10 ≡ s → eqb (get_or bs 0 0) 10 ≡ t → t ≡ s
    by true true f g = refl
    by false false f g = refl
    by true false f g = let k : d ≡ 10 = grind arith in let h : get_or bs 0 0 ≡ d = byte_from_char bs (encode_utf8_all ds) d (sym e) (omega arith) in let m : eqb (get_or bs 0 0) 10 ≡ true = (let n : get_or bs 0 0 ≡ 10 = h ∙ k in grind arith) in sym g ∙ m
    by false true f g = let k : get_or bs 0 0 ≡ 10 = grind arith in let h : d ≡ get_or bs 0 0 = char_from_byte bs (encode_utf8_all ds) d (sym e) (omega arith) (some bs k) in let m : eqb d 10 ≡ true = (let n : d ≡ 10 = h ∙ k in grind arith) in sym m ∙ f

-- what a byte tells of whether a character is refused
pub refused_here : (text : List ℕ) (at c : ℕ) (rest : List ℕ) → drop at text ≡ encode_utf8 c ++ rest → IsUtf8 rest → is_refused_before c (get_or text (at + 1) 0 ∷ []) ≡ is_refused_before c (chars rest)
refused_here text at c rest e u = by (eqb c 13) refl
  where
    by : (t : Bool) → eqb c 13 ≡ t → is_refused_before c (get_or text (at + 1) 0 ∷ []) ≡ is_refused_before c (chars rest)
    by true f =
        let k : c ≡ 13 = grind arith in
        let one : encode_utf8 c ≡ 13 ∷ [] = ap encode_utf8 k ∙ encode_ascii 13 (omega arith) in
        let next : get_or text (at + 1) 0 ≡ get_or rest 0 0 = sym (get_or-drop at text 1 0) ∙ ap (λ t. get_or t 1 0) (e ∙ ap (λ w. w ++ rest) one) in
        ap (λ t. (eqb c 13 && not t) || (not (is_white_control c) && is_refused c)) (ap (λ b. eqb b 10) next ∙ head_by rest (chars rest) (encodes-chars rest u))
    by false f = ap (λ t. (t && not (eqb (get_or text (at + 1) 0) 10)) || (not (is_white_control c) && is_refused c)) f ∙ sym (ap (λ t. (t && not (eqb (get_or (chars rest) 0 0) 10)) || (not (is_white_control c) && is_refused c)) f)

-- this is what is left of a text from an offset on, where a character begins
pub record IsReached (text : List ℕ) (offset : ℕ) (rest : List ℕ) : Type 0 where
  pub utf8 : IsUtf8 rest
  pub rest_is : drop offset text ≡ rest
  pub size : offset + length rest ≡ length text
  pub front : List ℕ
  pub chars_are : chars text ≡ front ++ chars rest
  pub place : offset ≡ length (encode_utf8_all front)

pub reached_more : (text : List ℕ) (offset c after : ℕ) (rest more : List ℕ) → IsReached text offset rest → rest ≡ encode_utf8 c ++ more → after ≡ offset + length (encode_utf8 c) → IsReached text after more
reached_more text offset c after rest more r e f = record {
  utf8 = IsUtf8-past_char rest more c r.utf8 e;
  rest_is = ap (λ n. drop n text) f ∙ sym (drop-drop (length (encode_utf8 c)) offset text) ∙ ap (drop (length (encode_utf8 c))) (r.rest_is ∙ e) ∙ drop_at (encode_utf8 c) more (length (encode_utf8 c)) refl;
  size = omega (arith, r.size, ap length e, length-append (encode_utf8 c) more, f);
  front = r.front ++ c ∷ [];
  chars_are = r.chars_are ∙ ap (λ t. r.front ++ t) (chars_past_char rest more c r.utf8 e) ∙ sym (append_assoc r.front (c ∷ []) (chars more));
  place =
      let a = ap length (encodes-append r.front (c ∷ [])) in
      let b = length-append (encode_utf8_all r.front) (encode_utf8_all (c ∷ [])) in
      let d = ap length (append-nil (encode_utf8 c)) in
      omega (arith, a, b, d, r.place, f);
}

-- the next character, and whether it is refused
pub next_chars : (text : List ℕ) (offset c : ℕ) (rest more : List ℕ) → IsReached text offset rest → rest ≡ encode_utf8 c ++ more → none_refused (chars rest) ≡ (not (is_refused_before c (get_or text (offset + 1) 0 ∷ [])) && none_refused (chars more))
next_chars text offset c rest more r e =
    ap none_refused (chars_past_char rest more c r.utf8 e)
    ∙ ap (λ t. not t && none_refused (chars more)) (sym (refused_here text offset c more (r.rest_is ∙ e) (IsUtf8-past_char rest more c r.utf8 e)))

pub fits : (text : List ℕ) (offset c : ℕ) (rest more : List ℕ) → IsReached text offset rest → rest ≡ encode_utf8 c ++ more → offset + len_utf8 c ≤ length text
fits text offset c rest more r e = omega (arith, r.size, ap length e, length-append (encode_utf8 c) more, length-encode c)

pub refused_fault : (text : List ℕ) (offset c : ℕ) (rest more : List ℕ) → IsReached text offset rest → rest ≡ encode_utf8 c ++ more → is_refused_before c (get_or text (offset + 1) 0 ∷ []) ≡ true → IsFault text (record { start = offset; end = offset + len_utf8 c })
refused_fault text offset c rest more r e h = record {
  ordered = omega arith;
  within = fits text offset c rest more r e;
  why = inl (record {
    front = r.front;
    refused = c;
    behind = chars more;
    text_is = r.chars_are ∙ ap (λ t. r.front ++ t) (chars_past_char rest more c r.utf8 e);
    place = r.place;
    why = sym (refused_here text offset c more (r.rest_is ∙ e) (IsUtf8-past_char rest more c r.utf8 e)) ∙ h;
  });
}

-- ---- what is noted of one character more

module _ (r all rest more : Bool) (next : rest ≡ (not r && more)) where
  pub shown_more : (m n : ℕ) → (r ≡ true → 0 < n) → (n ≡ 0 → m ≡ 0) → (m ≡ 0 → all ≡ rest) → n ≡ 0 → all ≡ more
  shown_more m n noted kept before h = by r refl next
    where
      by : (t : Bool) → r ≡ t → rest ≡ (not t && more) → all ≡ more
      by true e f = (let k = noted e in absurd (omega arith))
      by false e f = before (kept h) ∙ f

  pub not_refused : rest ≡ true → (r ≡ false) × (more ≡ true)
  not_refused h = by r next
    where
      by : (t : Bool) → rest ≡ (not t && more) → (t ≡ false) × (more ≡ true)
      by true f = cc (f, h)
      by false f = (refl, sym f ∙ h)

pub quiet_more : {A : Type 0} (r all rest more : Bool) (start before after : A) → rest ≡ (not r && more) → (r ≡ false → after ≡ before) → (all ≡ true → (rest ≡ true) × (before ≡ start)) → all ≡ true → (more ≡ true) × (after ≡ start)
quiet_more r all rest more start before after next same prior h = let p = prior h in let k = not_refused r all rest more next p.0 in (k.1, same k.0 ∙ p.1)

pub faults_more : (text : List ℕ) (offset c : ℕ) (rest more : List ℕ) (r : Bool) (start before after : List Refusal) → IsReached text offset rest → rest ≡ encode_utf8 c ++ more → is_refused_before c (get_or text (offset + 1) 0 ∷ []) ≡ r
    → AddsOnly (record { start = offset; end = offset + len_utf8 c }) before after → (r ≡ false → after ≡ before) → (AreFaults text start → AreFaults text before) → AreFaults text start → AreFaults text after
faults_more text offset c rest more true start before after reached e r only same prior h = faults_added text before after (record { start = offset; end = offset + len_utf8 c }) only (refused_fault text offset c rest more reached e r) (prior h)
faults_more text offset c rest more false start before after reached e r only same prior h = subst (AreFaults text) (sym (same refl)) (prior h)
