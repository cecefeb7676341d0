-- The function that gives each text itself as its key is lawful.
use Rattle.std.proofs.Common.{◌≡◌, ℕ, List, sym, ◌∙◌, true, Global}
use Rattle.std.specs.Cmp.Lexicographic.{bytes_decides}
use Rattle.std.specs.Str.{bytes_eq}
use Rattle.std.specs.String.{string_bytes, string_eq}
use Rattle.wac_names.specs.Interner.{IsLawful}

same : (s t : List ℕ) → bytes_eq s t ≡ true → s ≡ t
same s t e = (bytes_decides s t).0 e

tested : (s t : List ℕ) → s ≡ t → bytes_eq s t ≡ true
tested s t e = (bytes_decides s t).1 e

pub text_keys_lawful : IsLawful (string_eq {Z = Global}) (λ text key. bytes_eq text (string_bytes key))
text_keys_lawful = record {
  one_key = λ text j k p q. tested (string_bytes j) (string_bytes k) (sym (same text (string_bytes j) p) ∙ same text (string_bytes k) q);
  same_key = λ text j k p e. tested text (string_bytes k) (same text (string_bytes j) p ∙ same (string_bytes j) (string_bytes k) e);
  tells_texts = λ s t j k p q e. same s (string_bytes j) p ∙ same (string_bytes j) (string_bytes k) e ∙ sym (same t (string_bytes k) q);
}
