-- Numbering texts is lawful, up or down.
use Rattle.std.proofs.Common.{◌≡◌, ℕ, true, List, [], ◌∷◌, Option, Some, None, String, Global, sym, ◌∙◌, ap, subst, get_or, nat_eq, refl, ◌+◌, arith}
use Rattle.std.proofs.lemmas.Bool.{eq-eqb, eqb-true}
use Rattle.std.proofs.lemmas.List.Quantifiers.{position-Some}
use Rattle.std.specs.Cmp.Lexicographic.{bytes_decides}
use Rattle.std.specs.Str.{bytes_eq}
use Rattle.std.specs.String.{string_bytes}
use Rattle.wac_names.specs.Interner.{IsLawful}
use Rattle.wac_interners.specs.Places.{counts_down_to, is_place, text_place}

place_is : (o : Option ℕ) (key : ℕ) → is_place o key ≡ true → o ≡ Some key
place_is None key e = cc e
place_is (Some place) key e = ap Some (eqb-true place key e)

is_its_place : (o : Option ℕ) (key : ℕ) → o ≡ Some key → is_place o key ≡ true
is_its_place None key e = cc e
is_its_place (Some place) key e = eq-eqb place key cc

text_there : (texts : List (String Global)) (text : List ℕ) (key : ℕ) (d : String Global) → text_place texts text ≡ Some key → text ≡ string_bytes (get_or texts key d)
text_there texts text key d e = (bytes_decides text (string_bytes (get_or texts key d))).0 (position-Some (λ s. bytes_eq text (string_bytes s)) texts key d e).1

-- some text at that place
some_text : (texts : List (String Global)) (text : List ℕ) (key : ℕ) → text_place texts text ≡ Some key → String Global
some_text (t ∷ ts) text key e = t
some_text [] text key e = cc e

pub numbers_lawful : (texts : List (String Global)) → IsLawful nat_eq (λ text key. is_place (text_place texts text) key)
numbers_lawful texts = record {
  one_key = λ text j k p q. let same : j ≡ k = some_same (sym (place_is _ j p) ∙ place_is _ k q) in eq-eqb j k same;
  same_key = λ text j k p e. subst (λ (n : ℕ). is_place (text_place texts text) n ≡ true) (eqb-true j k e) p;
  tells_texts = λ s t j k p q e.
      let d = some_text texts s j (place_is _ j p) in
      let same : j ≡ k = eqb-true j k e in
      text_there texts s j d (place_is _ j p) ∙ ap (λ (n : ℕ). string_bytes (get_or texts n d)) same ∙ sym (text_there texts t k d (place_is _ k q));
} where
  some_same : {m n : ℕ} → ◌≡◌ {A = Option ℕ} (Some m) (Some n) → m ≡ n
  some_same e = cc e

-- counting down from 1000 comes to a key at one place
down_is : (o : Option ℕ) (key : ℕ) → counts_down_to o key ≡ true → (place : ℕ) × (o ≡ Some place) × (place + key ≡ 1000)
down_is None key e = cc e
down_is (Some place) key e = (place, refl, eqb-true (place + key) 1000 e)

pub countdown_lawful : (texts : List (String Global)) → IsLawful nat_eq (λ text key. counts_down_to (text_place texts text) key)
countdown_lawful texts = record {
  one_key = λ text j k p q.
      let a = down_is _ j p in
      let b = down_is _ k q in
      let same : a.0 ≡ b.0 = some_same (sym a.1 ∙ b.1) in
      let sums : a.0 + j ≡ b.0 + k = a.2 ∙ sym b.2 in
      eq-eqb j k (omega arith);
  same_key = λ text j k p e. subst (λ (n : ℕ). counts_down_to (text_place texts text) n ≡ true) (eqb-true j k e) p;
  tells_texts = λ s t j k p q e.
      let a = down_is _ j p in
      let b = down_is _ k q in
      let keys : j ≡ k = eqb-true j k e in
      let sums : a.0 + j ≡ b.0 + k = a.2 ∙ sym b.2 in
      let same : a.0 ≡ b.0 = omega arith in
      let d = some_text texts s a.0 a.1 in
      text_there texts s a.0 d a.1 ∙ ap (λ (n : ℕ). string_bytes (get_or texts n d)) same ∙ sym (text_there texts t b.0 d b.1);
} where
  some_same : {m n : ℕ} → ◌≡◌ {A = Option ℕ} (Some m) (Some n) → m ≡ n
  some_same e = cc e
