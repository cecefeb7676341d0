-- No word with which a type begins.
use Rattle.std.proofs.Common.{◌≡◌, ◌≢◌, ℕ, codes}
use Rattle.wac_model.specs.Text.{Text}
use Rattle.wac_wit_syntax.specs.Behind.{def_text}
use Rattle.wac_wit_syntax.specs.Cursors.{source}
use Rattle.wac_wit_syntax.specs.Productions.{SaysWord, Source}
use Rattle.wac_wit_syntax.specs.declared.typedefs.DefWord.{DefWord}
use Rattle.wac_wit_syntax.specs.declared.typedefs.DefWord.TheVariants as word
use Rattle.wac_wit_syntax.proofs.typedefs.def_word.Goals as goal

none_of : (s : Source) (i : ℕ) (text : Text) → ((v : Text) → SaysWord s i v → text ≡ v) → text ≢ codes "type" → text ≢ codes "record" → text ≢ codes "variant" → text ≢ codes "flags" → text ≢ codes "enum" → text ≢ codes "resource"
    → (w : DefWord) → SaysWord s i (def_text w) → ⊥
none_of s i text is a b c d e f word.Alias says = a (is (codes "type") says)
none_of s i text is a b c d e f word.Record says = b (is (codes "record") says)
none_of s i text is a b c d e f word.Variant says = c (is (codes "variant") says)
none_of s i text is a b c d e f word.Flags says = d (is (codes "flags") says)
none_of s i text is a b c d e f word.Enum says = e (is (codes "enum") says)
none_of s i text is a b c d e f word.Resource says = f (is (codes "resource") says)

pub returns-in_default-clause-complete : goal.returns-in_default-clause-complete
returns-in_default-clause-complete c = λ w cut says behind.
    absurd (none_of (source c.args.cursor.now) c.args.cursor.now.next c.word.result.now (λ v h. c.word.ensures.complete v cut h)
    c.in_default.not-type c.in_default.not-record c.in_default.not-variant c.in_default.not-flags c.in_default.not-enum c.in_default.not-resource w says)
