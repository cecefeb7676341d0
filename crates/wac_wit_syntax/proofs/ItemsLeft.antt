-- What of an item is left to be read.
use Rattle.std.proofs.Common.{◌≡◌, ◌≢◌, ◌⊎◌, ℕ, ◌+◌, ◌*◌, ◌==◌, ◌≤◌, if◌then◌else◌, Bool, true, false, codes, string_bytes, List, Option, Some, None, IsNone, IsSome, Ok, get_or, inl, inr, refl, sym, ap, ◌∙◌, subst, arith}
use Rattle.std.specs.Option.{is_some}
use Rattle.std.specs.Str.{bytes_eq}
use Rattle.wac_model.specs.Text.{Text}
use Rattle.wac_wit_syntax.specs.Behind.{IsBodyOf, IsNamedMethod, IsSignatureRest, MayBeStatic, def_text}
use Rattle.wac_wit_syntax.specs.Completing.{AllBegin, AnyOf, Before, BeforeEnd, Begins, Completes, Eats, IsListEnd, IsReadable, NotBefore}
use Rattle.wac_wit_syntax.specs.Cursors.{source}
use Rattle.wac_wit_syntax.specs.Functions.{IsFieldDecl, IsReturns, IsSignature, MayBeAsync}
use Rattle.wac_wit_syntax.specs.Gates.{IsGates}
use Rattle.wac_wit_syntax.specs.Lists.{IsBlock, Separated}
use Rattle.wac_wit_syntax.specs.Names.{keywords}
use Rattle.wac_wit_syntax.specs.Productions.{◌▸◌, IsKind, IsName, IsNameAt, IsWord, Production, SaysWord, Source, is_keyword, token_at}
use Rattle.wac_wit_syntax.specs.Typedefs.{AreMethods, IsBody, IsCaseDecl, IsMethod, IsMethodBody, IsPayloadDecl, word_of}
use Rattle.wac_wit_syntax.specs.Types.{IsTypeOf}
use Rattle.wac_wit_syntax.specs.declared.cursor.Cursor.{Cursor}
use Rattle.wac_wit_syntax.specs.declared.token.TokenKind.{TokenKind}
use Rattle.wac_wit_syntax.specs.declared.token.TokenKind.TheVariants.{Arrow, At, CloseBrace, CloseParen, Colon, Comma, Equals, Escaped, OpenAngle, OpenBrace, OpenParen, Semicolon, Word}
use Rattle.wac_wit_syntax.specs.declared.tree.Case.{Case}
use Rattle.wac_wit_syntax.specs.declared.tree.Field.{Field}
use Rattle.wac_wit_syntax.specs.declared.tree.Gates.{Gates}
use Rattle.wac_wit_syntax.specs.declared.tree.Ident.{Ident}
use Rattle.wac_wit_syntax.specs.declared.tree.Method.{Method}
use Rattle.wac_wit_syntax.specs.declared.tree.MethodKind.{MethodKind}
use Rattle.wac_wit_syntax.specs.declared.tree.MethodKind.TheVariants as kind
use Rattle.wac_wit_syntax.specs.declared.tree.Signature.{Signature}
use Rattle.wac_wit_syntax.specs.declared.tree.TypeDef.{TypeDef}
use Rattle.wac_wit_syntax.specs.declared.tree.TypeDef.TheVariants as def
use Rattle.wac_wit_syntax.specs.declared.tree.TypeExpr.{TypeExpr}
use Rattle.wac_wit_syntax.specs.declared.typedefs.DefWord.{DefWord}
use Rattle.wac_wit_syntax.specs.declared.typedefs.DefWord.TheVariants as word
use Rattle.wac_wit_syntax.proofs.TypesLeft.{type_longer}
use Rattle.wac_wit_syntax.proofs.TypesGone.{name_begins, type_no}

end_no_open : (kind : TokenKind) → IsListEnd kind → kind ≢ OpenAngle
end_no_open kind (inl e) = λ f. (let g : Comma ≡ OpenAngle = sym e ∙ f in cc)
end_no_open kind (inr (inl e)) = λ f. (let g : CloseParen ≡ OpenAngle = sym e ∙ f in cc)
end_no_open kind (inr (inr e)) = λ f. (let g : CloseBrace ≡ OpenAngle = sym e ∙ f in cc)

end_no_paren : (kind : TokenKind) → IsListEnd kind → kind ≢ OpenParen
end_no_paren kind (inl e) = λ f. (let g : Comma ≡ OpenParen = sym e ∙ f in cc)
end_no_paren kind (inr (inl e)) = λ f. (let g : CloseParen ≡ OpenParen = sym e ∙ f in cc)
end_no_paren kind (inr (inr e)) = λ f. (let g : CloseBrace ≡ OpenParen = sym e ∙ f in cc)

pub other_kind : (s : Source) (i : ℕ) (a b : TokenKind) → (token_at s i).kind ≡ a → a ≢ b → (token_at s i).kind ≢ b
other_kind s i a b e n = λ f. n (sym e ∙ f)

pub name_begin : (s : Source) (id : Ident) (i k j : ℕ) → IsName id s i k → k ≤ j → Begins s i j
name_begin s id i k j n more = (let e = n.2 in omega arith, by (name_begins s i (string_bytes id.name) n.0))
  where
    by : ((token_at s i).kind ≡ Word) ⊎ ((token_at s i).kind ≡ Escaped) → ((token_at s i).kind ≡ Word) ⊎ (((token_at s i).kind ≡ Escaped) ⊎ ((token_at s i).kind ≡ At))
    by (inl e) = inl e
    by (inr e) = inr (inl e)

-- ---- fields and functions

pub fields_begin : AllBegin IsFieldDecl
fields_begin f s i j h =
    let n = h.0.1 in
    let colon = h.0.2.1.1 in
    let more = type_longer s f.ty h.0.2.0 j h.0.2.2 in
    name_begin s f.name i h.0.0 j n (omega arith)

pub field_parts : (s : Source) (i j : ℕ) → BeforeEnd (AnyOf IsFieldDecl) s i j → ((AnyOf IsName ▸ IsKind Colon) ▸ NotBefore OpenAngle (AnyOf IsTypeOf)) s i j
field_parts s i j p =
    let f : Field = p.0.0 in
    let h = p.0.1.0 in
    (h.2.0, (h.0, (f.name, h.1), h.2.1), ((f.ty, h.2.2), end_no_open (token_at s j).kind p.1))

no_returns_at : (c d : Cursor) (eaten : Bool) (r : Option TypeExpr) (j : ℕ) → IsReadable (source c) → Eats c d eaten (IsKind Arrow) → eaten ≡ false → d ≡ c → IsReturns r (source c) c.next j → d ≡ record c { next = j }
no_returns_at c d eaten None j cut eats off same h = same ∙ ap (λ m. record c { next = m }) (sym h)
no_returns_at c d eaten (Some t) j cut eats off same h = absurd (let f : false ≡ true = sym off ∙ (eats cut h.0 h.1).0 in cc)

pub no_returns : {T : Type 0} {v : T} (c d : Cursor) (eaten : Bool) → Eats c d eaten (IsKind Arrow) → eaten ≡ false → d ≡ c → Completes c d (Ok v) (Before Semicolon (AnyOf IsReturns))
no_returns {T} {v} c d eaten eats off same = record { ends = λ cut j p. record { ok = no_returns_at c d eaten p.0.0 j cut eats off same p.0.1; memory = tt } }

returns_at : (s : Source) (r : Option TypeExpr) (i j : ℕ) → (token_at s i).kind ≡ Arrow → IsReturns r s i j → (token_at s j).kind ≡ Semicolon → (IsKind Arrow ▸ NotBefore OpenAngle (AnyOf IsTypeOf)) s i j
returns_at s None i j at h ends = absurd (let f : Arrow ≡ Semicolon = sym at ∙ sym (ap (λ k. (token_at s k).kind) h) ∙ ends in cc)
returns_at s (Some t) i j at h ends = (h.0, h.1, ((t, h.2), other_kind s j Semicolon OpenAngle ends (λ e. cc)))

pub returns_parts : (s : Source) (i j : ℕ) → (token_at s i).kind ≡ Arrow → Before Semicolon (AnyOf IsReturns) s i j → (IsKind Arrow ▸ NotBefore OpenAngle (AnyOf IsTypeOf)) s i j
returns_parts s i j at p = returns_at s p.0.0 i j at p.0.1 p.1

-- a type begins with no parenthesis
pub no_paren : (c d : Cursor) (eaten : Bool) (j : ℕ) → IsReadable (source c) → (token_at (source c) c.next).kind ≡ Arrow → Eats c d eaten (IsKind Arrow) → Before Semicolon (AnyOf IsReturns) (source c) c.next j → (token_at (source d) d.next).kind ≡ OpenParen → ⊥
no_paren c d eaten j cut at eats p seen =
    let h = returns_parts (source c) c.next j at p in
    let to : d ≡ record c { next = h.0 } = (eats cut h.0 h.1).1 in
    type_no (source c) h.2.0.0 h.0 j OpenParen (λ e. cc) (λ e. cc) h.2.0.1 (sym (ap (λ (x : Cursor). (token_at (source x) x.next).kind) to) ∙ seen)

pub signature_parts : (s : Source) (i j : ℕ) → IsSignatureRest s i j → ((IsKind OpenParen ▸ AnyOf (Separated IsFieldDecl) ▸ IsKind CloseParen) ▸ Before Semicolon (AnyOf IsReturns) ▸ IsKind Semicolon) s i j
signature_parts s i j h = (h.0, h.1, (h.2.0, (h.2.1, h.2.2.0), h.2.2))

-- a word that may stand there, or another thing
abbrev pub MayBe : Text → Production
MayBe w = λ s i j. IsWord w s i j ⊎ ((j ≡ i) × (SaysWord s i w → ⊥))

pub completes_maybe : (c d : Cursor) (eaten : Bool) (w : Text) → Eats c d eaten (IsWord w) → (eaten ≡ false → d ≡ c) → (eaten ≡ true → SaysWord (source c) c.next w) → Completes c d (Ok (tt {0})) (MayBe w)
completes_maybe c d eaten w eats left seen = record { ends = λ cut j p. record { ok = by cut j p eaten refl; memory = tt } }
  where
    by : IsReadable (source c) → (j : ℕ) → MayBe w (source c) c.next j → (b : Bool) → eaten ≡ b → d ≡ record c { next = j }
    by cut j (inl h) b e = (eats cut j h).1
    by cut j (inr h) true e = absurd (h.1 (seen e))
    by cut j (inr h) false e = left e ∙ ap (λ m. record c { next = m }) (sym h.0)

pub apart : (v w : Text) (s : Source) (i : ℕ) → get_or v 0 0 ≢ get_or w 0 0 → SaysWord s i v → SaysWord s i w → ⊥
apart v w s i n a b = n (ap (λ (t : List ℕ). get_or t 0 0) (sym a.1 ∙ b.1))

maybe_async : (b : Bool) (s : Source) (i j : ℕ) → MayBeAsync b s i j → SaysWord s j (codes "func") → MayBe (codes "async") s i j
maybe_async true s i j h says = inl h
maybe_async false s i j h says = inr (h, λ other. apart (codes "async") (codes "func") s j (λ e. absurd (omega (arith, e))) (subst (λ k. SaysWord s k (codes "async")) (sym h) other) says)

pub words_parts : (s : Source) (i j : ℕ) → AnyOf IsSignature s i j → (MayBe (codes "async") ▸ IsWord (codes "func") ▸ IsSignatureRest) s i j
words_parts s i j p =
    let f : Signature = p.0 in
    let h = p.1.1.0 in
    (h.0, maybe_async f.is_async s i h.0 h.1 h.2.1.0, (h.2.0, h.2.1, (h.2.2.0, (h.2.2.1.0, h.2.2.1.1, (h.2.2.1.2.0, (f.params.items, h.2.2.1.2.1), h.2.2.1.2.2)), (p.1.0, (f.returns, h.2.2.2), p.1.2))))

-- ---- types with names

pub alias_parts : (s : Source) (i j : ℕ) → (IsKind Equals ▸ AnyOf IsTypeOf ▸ IsKind Semicolon) s i j → (IsKind Equals ▸ NotBefore OpenAngle (AnyOf IsTypeOf) ▸ IsKind Semicolon) s i j
alias_parts s i j h = (h.0, h.1, (h.2.0, (h.2.1, other_kind s h.2.0 Semicolon OpenAngle h.2.2.0 (λ e. cc)), h.2.2))

abbrev pub word_for : TypeDef → DefWord
word_for (def.Alias t) = word.Alias
word_for (def.Record fields) = word.Record
word_for (def.Variant cases) = word.Variant
word_for (def.Flags names) = word.Flags
word_for (def.Enum names) = word.Enum
word_for (def.Resource methods) = word.Resource

pub by_word : (d : TypeDef) → word_of d ≡ def_text (word_for d)
by_word (def.Alias t) = refl
by_word (def.Record fields) = refl
by_word (def.Variant cases) = refl
by_word (def.Flags names) = refl
by_word (def.Enum names) = refl
by_word (def.Resource methods) = refl

-- two bytes tell the words from each other
abbrev pub with_code : ℕ → Option DefWord
with_code n =
    if n == 29808 then Some word.Alias else (if n == 29283 then Some word.Record else (if n == 30322 then Some word.Variant
    else (if n == 26209 then Some word.Flags else (if n == 25973 then Some word.Enum else (if n == 29299 then Some word.Resource else None)))))

abbrev pub word_in : Text → Option DefWord
word_in t = with_code (get_or t 0 0 * 256 + get_or t 2 0)

told : (w : DefWord) → word_in (def_text w) ≡ Some w
told word.Alias = refl
told word.Record = refl
told word.Variant = refl
told word.Flags = refl
told word.Enum = refl
told word.Resource = refl

pub same_def : (v w : DefWord) → def_text v ≡ def_text w → v ≡ w
same_def v w e = let f : Some v ≡ Some w = sym (told v) ∙ ap word_in e ∙ told w in cc

pub no_def : (w : DefWord) (x : Text) → word_in x ≡ None → def_text w ≡ x → ⊥
no_def w x none e = let f : Some w ≡ None = sym (told w) ∙ ap word_in e ∙ none in cc

-- what stands behind the name, by the word
abbrev pub BodyAs : DefWord → Production
BodyAs word.Alias = IsKind Equals ▸ AnyOf IsTypeOf ▸ IsKind Semicolon
BodyAs word.Record = IsKind OpenBrace ▸ AnyOf (Separated IsFieldDecl) ▸ IsKind CloseBrace
BodyAs word.Variant = IsKind OpenBrace ▸ AnyOf (Separated IsCaseDecl) ▸ IsKind CloseBrace
BodyAs word.Flags = IsKind OpenBrace ▸ AnyOf (Separated IsName) ▸ IsKind CloseBrace
BodyAs word.Enum = IsKind OpenBrace ▸ AnyOf (Separated IsName) ▸ IsKind CloseBrace
BodyAs word.Resource = AnyOf AreMethods

body_as : (d : TypeDef) (s : Source) (i j : ℕ) → IsBody d s i j → BodyAs (word_for d) s i j
body_as (def.Alias t) s i j h = (h.0, h.1, (h.2.0, (t, h.2.1), h.2.2))
body_as (def.Record fields) s i j h = (h.0, h.1, (h.2.0, (fields.items, h.2.1), h.2.2))
body_as (def.Variant cases) s i j h = (h.0, h.1, (h.2.0, (cases.items, h.2.1), h.2.2))
body_as (def.Flags names) s i j h = (h.0, h.1, (h.2.0, (names.items, h.2.1), h.2.2))
body_as (def.Enum names) s i j h = (h.0, h.1, (h.2.0, (names.items, h.2.1), h.2.2))
body_as (def.Resource methods) s i j h = (methods.items, h)

pub body_of : (w v : DefWord) → w ≡ v → (s : Source) (i j : ℕ) → IsBodyOf w s i j → BodyAs v s i j
body_of w v e s i j p = subst (λ u. BodyAs u s i j) (same_def (word_for p.0) w (sym (by_word p.0) ∙ p.1.1) ∙ e) (body_as p.0 s i j p.1.0)

pub names_begin : AllBegin IsName
names_begin id s i j h = name_begin s id i j j h (omega arith)

payload_longer : (t : Option TypeExpr) (s : Source) (i j : ℕ) → IsPayloadDecl t s i j → i ≤ j
payload_longer None s i j h = omega arith
payload_longer (Some t) s i j h = let a = h.1.1 in let b = type_longer s t h.0 h.2.0 h.2.1 in let c = h.2.2.1 in omega arith

pub cases_begin : AllBegin IsCaseDecl
cases_begin c s i j h = name_begin s c.name i h.0.0 j h.0.1 (payload_longer c.ty s h.0.0 j h.0.2)

pub case_parts : (s : Source) (i j : ℕ) → BeforeEnd (AnyOf IsCaseDecl) s i j → (AnyOf IsName ▸ BeforeEnd (AnyOf IsPayloadDecl)) s i j
case_parts s i j p =
    let c : Case = p.0.0 in
    let h = p.0.1.0 in
    (h.0, (c.name, h.1), ((c.ty, h.2), p.1))

no_payload_at : (c d : Cursor) (eaten : Bool) (t : Option TypeExpr) (j : ℕ) → IsReadable (source c) → Eats c d eaten (IsKind OpenParen) → eaten ≡ false → d ≡ c → IsPayloadDecl t (source c) c.next j → d ≡ record c { next = j }
no_payload_at c d eaten None j cut eats off same h = same ∙ ap (λ m. record c { next = m }) (sym h)
no_payload_at c d eaten (Some t) j cut eats off same h = absurd (let f : false ≡ true = sym off ∙ (eats cut h.0 h.1).0 in cc)

pub no_payload : {T : Type 0} {v : T} (c d : Cursor) (eaten : Bool) → Eats c d eaten (IsKind OpenParen) → eaten ≡ false → d ≡ c → Completes c d (Ok v) (BeforeEnd (AnyOf IsPayloadDecl))
no_payload {T} {v} c d eaten eats off same = record { ends = λ cut j p. record { ok = no_payload_at c d eaten p.0.0 j cut eats off same p.0.1; memory = tt } }

abbrev pub PayloadTokens : Production
PayloadTokens = IsKind OpenParen ▸ NotBefore OpenAngle (AnyOf IsTypeOf) ▸ IsKind CloseParen

payload_at : (s : Source) (t : Option TypeExpr) (i j : ℕ) → (token_at s i).kind ≡ OpenParen → IsPayloadDecl t s i j → IsListEnd (token_at s j).kind → PayloadTokens s i j
payload_at s None i j at h ends = absurd (end_no_paren (token_at s j).kind ends (subst (λ k. (token_at s k).kind ≡ OpenParen) (sym h) at))
payload_at s (Some t) i j at h ends = (h.0, h.1, (h.2.0, ((t, h.2.1), other_kind s h.2.0 CloseParen OpenAngle h.2.2.0 (λ e. cc)), h.2.2))

pub payload_parts : (s : Source) (i j : ℕ) → (token_at s i).kind ≡ OpenParen → BeforeEnd (AnyOf IsPayloadDecl) s i j → PayloadTokens s i j
payload_parts s i j at p = payload_at s p.0.0 i j at p.0.1 p.1

-- ---- resources

pub methods_none : {T : Type 0} {v : T} (c d : Cursor) (eaten : Bool) → Eats c d eaten (IsKind Semicolon) → (token_at (source c) c.next).kind ≡ Semicolon → Completes c d (Ok v) (AnyOf AreMethods)
methods_none {T} {v} c d eaten eats seen = record { ends = λ cut j p. record { ok = by cut j p.0 p.1; memory = tt } }
  where
    by : IsReadable (source c) → (j : ℕ) → (ms : List Method) → AreMethods ms (source c) c.next j → d ≡ record c { next = j }
    by cut j ms (inl h) = (eats cut j h.1).1
    by cut j ms (inr h) = absurd (let f : Semicolon ≡ OpenBrace = sym seen ∙ h.1.0 in cc)

pub methods_block : (c d : Cursor) (eaten : Bool) (j : ℕ) → IsReadable (source c) → Eats c d eaten (IsKind Semicolon) → eaten ≡ false → AnyOf AreMethods (source c) c.next j → AnyOf (IsBlock IsMethod) (source c) c.next j
methods_block c d eaten j cut eats off p = by p.0 p.1
  where
    by : (ms : List Method) → AreMethods ms (source c) c.next j → AnyOf (IsBlock IsMethod) (source c) c.next j
    by ms (inl h) = absurd (let f : false ≡ true = sym off ∙ (eats cut j h.1).0 in cc)
    by ms (inr h) = (ms, h)

pub signature_begins : (f : Signature) (s : Source) (i j : ℕ) → IsSignature f s i j → SaysWord s i (codes "func") ⊎ SaysWord s i (codes "async")
signature_begins f s i j h = by f.is_async h.1.0.0 h.1.0.1 h.1.0.2.1.0
  where
    by : (b : Bool) (k : ℕ) → MayBeAsync b s i k → SaysWord s k (codes "func") → SaysWord s i (codes "func") ⊎ SaysWord s i (codes "async")
    by true k a says = inr a.0
    by false k a says = inl (subst (λ m. SaysWord s m (codes "func")) a says)

maybe_static : (b : Bool) (s : Source) (i j : ℕ) → MayBeStatic b s i j → SaysWord s j (codes "func") ⊎ SaysWord s j (codes "async") → MayBe (codes "static") s i j
maybe_static true s i j h says = inl h
maybe_static false s i j h (inl says) = inr (h, λ other. apart (codes "static") (codes "func") s j (λ e. absurd (omega (arith, e))) (subst (λ k. SaysWord s k (codes "static")) (sym h) other) says)
maybe_static false s i j h (inr says) = inr (h, λ other. apart (codes "static") (codes "async") s j (λ e. absurd (omega (arith, e))) (subst (λ k. SaysWord s k (codes "static")) (sym h) other) says)

pub named_parts : (s : Source) (i j : ℕ) → IsNamedMethod s i j → ((AnyOf IsName ▸ IsKind Colon) ▸ MayBe (codes "static") ▸ AnyOf IsSignature) s i j
named_parts s i j p = (p.0, p.1, (p.2.0, maybe_static p.2.1.0 s p.0 p.2.0 p.2.1.1 (signature_begins p.2.2.0 s p.2.0 j p.2.2.1), p.2.2))

-- behind the attributes of a method
abbrev pub MethodRest : Production
MethodRest = λ s i j. (SaysWord s i (codes "constructor") × (IsKind Word ▸ IsSignatureRest) s i j) ⊎ IsNamedMethod s i j

-- attributes before what begins with no `@`
pub gates_before : (s : Source) (g : Gates) (i k : ℕ) → IsGates g s i k → (token_at s k).kind ≢ At → NotBefore At (AnyOf IsGates) s i k
gates_before s g i k h ends = ((g, h), ends)

pub name_no_at : (s : Source) (id : Ident) (i j : ℕ) → IsName id s i j → (token_at s i).kind ≢ At
name_no_at s id i j n = by (name_begins s i (string_bytes id.name) n.0)
  where
    by : ((token_at s i).kind ≡ Word) ⊎ ((token_at s i).kind ≡ Escaped) → (token_at s i).kind ≢ At
    by (inl e) = other_kind s i Word At e (λ f. cc)
    by (inr e) = other_kind s i Escaped At e (λ f. cc)

pub word_no_at : (s : Source) (w : Text) (i : ℕ) → SaysWord s i w → (token_at s i).kind ≢ At
word_no_at s w i says = other_kind s i Word At says.0 (λ f. cc)

method_body : (k : MethodKind) (m : Method) (s : Source) (i j : ℕ) → IsMethodBody k m s i j → ((token_at s i).kind ≢ At) × MethodRest s i j
method_body kind.Method m s i j h =
    let p = h.0 in
    (name_no_at s m.name i p.0 p.1, inr (p.2.0, (p.0, (m.name, p.1), p.2.1), (p.2.0, (false, refl), (m.signature, p.2.2))))
method_body kind.Static m s i j h =
    let p = h.0 in
    (name_no_at s m.name i p.0 p.1, inr (p.2.0, (p.0, (m.name, p.1), p.2.1), (p.2.2.0, (true, p.2.2.1), (m.signature, p.2.2.2))))
method_body kind.Constructor m s i j h =
    let p = h.0 in
    let q = p.1.0 in
    (word_no_at s (codes "constructor") i q.1.0.0, inl (q.1.0.0, (q.0, (q.1.0.0.0, q.1.0.1), (q.2.0, (q.2.1.0, q.2.1.1, (q.2.1.2.0, (m.signature.params.items, q.2.1.2.1), q.2.1.2.2)), (p.0, (m.signature.returns, q.2.2), p.2)))))

pub method_parts : (s : Source) (i j : ℕ) → AnyOf IsMethod s i j → (NotBefore At (AnyOf IsGates) ▸ MethodRest) s i j
method_parts s i j p =
    let m : Method = p.0 in
    let h = method_body m.kind m s p.1.0 j p.1.2 in
    (p.1.0, gates_before s m.gates i p.1.0 p.1.1 h.0, h.1)

-- a keyword is no name
pub keyword_no_name : (s : Source) (i : ℕ) (w n : Text) → is_keyword w ≡ true → SaysWord s i w → IsNameAt s i n → ⊥
keyword_no_name s i w n is says (inl k) = let f : true ≡ false = sym is ∙ ap is_keyword (sym says.1 ∙ k.0.1) ∙ k.1 in cc
keyword_no_name s i w n is says (inr k) = let f : Word ≡ Escaped = sym says.0 ∙ k.0 in cc

constructor_is : is_keyword (codes "constructor") ≡ true
unfolding keywords
constructor_is = refl

pub constructor_rest : (s : Source) (i j : ℕ) → SaysWord s i (codes "constructor") → MethodRest s i j → (IsKind Word ▸ IsSignatureRest) s i j
constructor_rest s i j says (inl h) = h.1
constructor_rest s i j says (inr h) = absurd (keyword_no_name s i (codes "constructor") _ constructor_is says h.1.1.1.0)

pub named_rest : (s : Source) (i j : ℕ) → (SaysWord s i (codes "constructor") → ⊥) → MethodRest s i j → IsNamedMethod s i j
named_rest s i j none (inl h) = absurd (none h.0)
named_rest s i j none (inr h) = h

pub methods_there : (c d : Cursor) (eaten : Bool) (j : ℕ) → IsReadable (source d) → Eats c d eaten (IsKind Semicolon) → eaten ≡ false → d ≡ c → AnyOf AreMethods (source d) d.next j → AnyOf (IsBlock IsMethod) (source d) d.next j
methods_there c d eaten j cut eats off same p =
    subst (λ (x : Cursor). AnyOf (IsBlock IsMethod) (source x) x.next j) (sym same)
    (methods_block c d eaten j (subst (λ (x : Cursor). IsReadable (source x)) same cut) eats off (subst (λ (x : Cursor). AnyOf AreMethods (source x) x.next j) same p))

-- a word that is told from the next
pub not_word : (s : Source) (i : ℕ) (text w : Text) (b : Bool) → b ≡ bytes_eq text w → b ≡ false → (SaysWord s i w → text ≡ w) → bytes_eq w w ≡ true → SaysWord s i w → ⊥
not_word s i text w b e f is same says = let g : false ≡ true = sym f ∙ e ∙ ap (λ (t : Text). bytes_eq t w) (is says) ∙ same in cc

pub none_some : {T : Type 0} (o : Option T) → IsNone o → IsSome o → ⊥
none_some None a b = absurd (let f : false ≡ true = b in cc)
none_some (Some v) a b = absurd (let f : true ≡ false = a in cc)

pub is_none : {T : Type 0} (o : Option T) → is_some o ≡ false → o ≡ None
is_none None e = refl
is_none (Some v) e = absurd (let f : true ≡ false = e in cc)
