-- Names that are taken.
use Rattle.std.proofs.Common.{◌≡◌, ◌≢◌, ℕ, ◌+◌, ◌-◌, ◌<◌, false, List, drop, take, slice_range, string_bytes, inl, inr, sym, ap, ◌∙◌, subst, arith}
use Rattle.std.proofs.lemmas.List.{drop-drop, drop-take}
use Rattle.wac_model.specs.Text.{Text}
use Rattle.wac_wit_syntax.specs.Cursors.{HasNoRefusal, Reads, SpellsName, source}
use Rattle.wac_wit_syntax.specs.Productions.{IsName, IsNameAt, IsWord, SaysWord, Source, is_keyword, token_at}
use Rattle.wac_wit_syntax.specs.declared.cursor.Cursor.{Cursor}
use Rattle.wac_wit_syntax.specs.declared.token.Token.{Token}
use Rattle.wac_wit_syntax.specs.declared.token.TokenKind.TheVariants.{End, Escaped, Word}
use Rattle.wac_wit_syntax.specs.declared.tree.Ident.{Ident}

slice_behind : (xs : List ℕ) (a b : ℕ) → a < b → slice_range xs (a + 1) b ≡ drop 1 (slice_range xs a b)
slice_behind xs a b h =
    let e : b - a ≡ 1 + (b - (a + 1)) = omega arith in
    sym (ap (λ n. drop 1 (take n (drop a xs))) e ∙ drop-take 1 (b - (a + 1)) (drop a xs) ∙ ap (take (b - (a + 1))) (drop-drop 1 a xs))

-- a token is taken, and nothing else changes
pub reads_one : (c d : Cursor) (P : Source → ℕ → ℕ → Type 0) → d ≡ record c { next = d.next } → P (source c) c.next d.next → Reads c d P
reads_one c d P e h = record {
  quiet = λ q. subst HasNoRefusal e q;
  same = λ q. ap source e;
  read = λ q. h;
}

spelled : (s : Source) (i : ℕ) (token : Token) (name : Text) → token ≡ token_at s i → SpellsName s.text token name → (token.kind ≡ Word → is_keyword name ≡ false) → IsNameAt s i name
spelled s i token name e (inl h) k = inl ((ap (λ (t : Token). t.kind) (sym e) ∙ h.0, sym (h.1 ∙ ap (λ (t : Token). slice_range s.text t.span.start t.span.end) e)), k h.0)
spelled s i token name e (inr h) k = inr (ap (λ (t : Token). t.kind) (sym e) ∙ h.0, h.2 ∙ slice_behind s.text _ _ h.1 ∙ ap (λ (t : Token). drop 1 (slice_range s.text t.span.start t.span.end)) e)

is_no_end : (token : Token) (name : Text) (text : Text) → SpellsName text token name → token.kind ≢ End
is_no_end token name text (inl h) = λ e. (let k : Word ≡ End = sym h.0 ∙ e in cc)
is_no_end token name text (inr h) = λ e. (let k : Escaped ≡ End = sym h.0 ∙ e in cc)

pub reads_name : (c d : Cursor) (id : Ident) (token taken : Token) (name : Text) → token ≡ token_at (source c) c.next → SpellsName (string_bytes c.text) token name
    → (token.kind ≡ Word → is_keyword name ≡ false) → taken ≡ token_at (source c) c.next → d ≡ record c { next = d.next } → (taken.kind ≢ End → d.next ≡ c.next + 1)
    → string_bytes id.name ≡ name → id.span ≡ taken.span → Reads c d (IsName id)
reads_name c d id token taken name e h k f g n same span =
    let solid : taken.kind ≢ End = subst (λ (t : Token). t.kind ≢ End) (e ∙ sym f) (is_no_end token name _ h) in
    reads_one c d (IsName id) g (subst (IsNameAt (source c) c.next) (sym same) (spelled (source c) c.next token name e h k), span ∙ ap (λ (t : Token). t.span) f, n solid)

pub reads_word : (c d : Cursor) (taken : Token) (w : Text) → SaysWord (source c) c.next w → taken ≡ token_at (source c) c.next → d ≡ record c { next = d.next }
    → (taken.kind ≢ End → d.next ≡ c.next + 1) → Reads c d (IsWord w)
reads_word c d taken w h f g n =
    let solid : taken.kind ≢ End = λ e. (let k : Word ≡ End = sym h.0 ∙ sym (ap (λ (t : Token). t.kind) f) ∙ e in cc) in
    reads_one c d (IsWord w) g (h, n solid)
