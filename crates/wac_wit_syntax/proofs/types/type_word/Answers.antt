-- No word that makes types.
use Rattle.std.proofs.Common.{◌≡◌, ◌≢◌, ℕ, codes}
use Rattle.wac_model.specs.Text.{Text}
use Rattle.wac_wit_syntax.specs.Cursors.{source}
use Rattle.wac_wit_syntax.specs.Productions.{SaysWord, Source}
use Rattle.wac_wit_syntax.specs.TypeParts.{BeginsPlain}
use Rattle.wac_wit_syntax.specs.declared.types.TypeWord.TheVariants as word
use Rattle.wac_wit_syntax.proofs.types.type_word.Goals as goal

-- the word that comes next is none of these
none_of : (s : Source) (i : ℕ) (text : Text) → ((v : Text) → SaysWord s i v → text ≡ v) → text ≢ codes "list" → text ≢ codes "option" → text ≢ codes "result" → text ≢ codes "tuple" → text ≢ codes "future" → text ≢ codes "stream" → text ≢ codes "map" → BeginsPlain s i
none_of s i text is a b c d e f g word.List says = absurd (a (is (codes "list") says))
none_of s i text is a b c d e f g word.Option says = absurd (b (is (codes "option") says))
none_of s i text is a b c d e f g word.Result says = absurd (c (is (codes "result") says))
none_of s i text is a b c d e f g word.Tuple says = absurd (d (is (codes "tuple") says))
none_of s i text is a b c d e f g word.Future says = absurd (e (is (codes "future") says))
none_of s i text is a b c d e f g word.Stream says = absurd (f (is (codes "stream") says))
none_of s i text is a b c d e f g word.Map says = absurd (g (is (codes "map") says))

pub returns-in_default-clause-complete : goal.returns-in_default-clause-complete
returns-in_default-clause-complete c = λ cut none. none_of (source c.args.cursor.now) c.args.cursor.now.next c.word.result.now (λ v says. c.word.ensures.complete v cut says)
    c.in_default.not-list c.in_default.not-option c.in_default.not-result c.in_default.not-tuple c.in_default.not-future c.in_default.not-stream c.in_default.not-map
