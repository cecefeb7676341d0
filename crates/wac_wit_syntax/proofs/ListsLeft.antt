-- What of a list or a block is left is read one after the other.
use Rattle.std.proofs.Common.{◌≡◌, ◌≢◌, ◌⊎◌, ℕ, ◌+◌, ◌<◌, ◌≤◌, Bool, true, false, List, [], ◌∷◌, length, Ok, Err, inl, inr, refl, sym, ap, ◌∙◌, subst, arith}
use Rattle.wac_wit_syntax.specs.Completing.{AllBegin, AnyOf, Begins, BeforeEnd, Completes, Eats, ComesTo, IsCloser, IsListEnd, IsReadable}
use Rattle.wac_wit_syntax.specs.Cursors.{source}
use Rattle.wac_wit_syntax.specs.Lists.{InOrder, IsBlock, MayBeComma, Separated}
use Rattle.wac_wit_syntax.specs.Productions.{◌▸◌, IsKind, Production, Source, token_at}
use Rattle.wac_wit_syntax.specs.declared.cursor.Cursor.{Cursor}
use Rattle.wac_wit_syntax.specs.declared.error.Fault.{Fault}
use Rattle.wac_wit_syntax.specs.declared.error.Fault.TheVariants.{Memory}
use Rattle.wac_wit_syntax.specs.declared.token.TokenKind.{TokenKind}
use Rattle.wac_wit_syntax.specs.declared.token.TokenKind.TheVariants.{At, CloseBrace, CloseParen, Comma, End, Escaped, OpenBrace, Word}
use Rattle.wac_wit_syntax.proofs.TypesGone.{kind_past, stays}

-- no name and no attribute begins with this
abbrev pub IsMark : TokenKind → Type 0
IsMark kind = (Word ≢ kind) × (Escaped ≢ kind) × (At ≢ kind)

pub begins_no : (s : Source) (i j : ℕ) (kind : TokenKind) → IsMark kind → Begins s i j → (token_at s i).kind ≡ kind → ⊥
begins_no s i j kind m b e = by b.1
  where
    by : ((token_at s i).kind ≡ Word) ⊎ (((token_at s i).kind ≡ Escaped) ⊎ ((token_at s i).kind ≡ At)) → ⊥
    by (inl f) = m.0 (sym f ∙ e)
    by (inr (inl f)) = m.1 (sym f ∙ e)
    by (inr (inr f)) = m.2 (sym f ∙ e)

pub end_marks : (kind : TokenKind) → IsListEnd kind → IsMark kind
end_marks kind (inl e) = subst IsMark (sym e) (λ f. cc, λ f. cc, λ f. cc)
end_marks kind (inr (inl e)) = subst IsMark (sym e) (λ f. cc, λ f. cc, λ f. cc)
end_marks kind (inr (inr e)) = subst IsMark (sym e) (λ f. cc, λ f. cc, λ f. cc)

end_solid : (kind : TokenKind) → IsListEnd kind → End ≢ kind
end_solid kind (inl e) = λ f. (let g : End ≡ Comma = f ∙ e in cc)
end_solid kind (inr (inl e)) = λ f. (let g : End ≡ CloseParen = f ∙ e in cc)
end_solid kind (inr (inr e)) = λ f. (let g : End ≡ CloseBrace = f ∙ e in cc)

pub closer_solid : (kind : TokenKind) → IsCloser kind → kind ≢ End
closer_solid kind (inl e) = λ f. (let g : CloseParen ≡ End = sym e ∙ f in cc)
closer_solid kind (inr e) = λ f. (let g : CloseBrace ≡ End = sym e ∙ f in cc)

pub closer_no_comma : (kind : TokenKind) → IsCloser kind → kind ≢ Comma
closer_no_comma kind (inl e) = λ f. (let g : CloseParen ≡ Comma = sym e ∙ f in cc)
closer_no_comma kind (inr e) = λ f. (let g : CloseBrace ≡ Comma = sym e ∙ f in cc)

-- ---- lists

abbrev pub ListLeft : {X : Type 0} → (X → Production) → TokenKind → Production
ListLeft P close = AnyOf (Separated P) ▸ IsKind close

-- behind a member
abbrev pub BehindMember : {X : Type 0} → (X → Production) → TokenKind → Production
BehindMember P close = λ s i j. IsKind close s i j ⊎ (IsKind Comma ▸ ListLeft P close) s i j

-- the end, or a member
list_split : {X : Type 0} (P : X → Production) (close : TokenKind) (s : Source) (i k j : ℕ) (xs : List X) → Separated P xs s i k → IsKind close s k j → IsKind close s i j ⊎ (AnyOf P ▸ BehindMember P close) s i j
list_split P close s i k j [] e h = inl (subst (λ m. IsKind close s m j) e h)
list_split P close s i k j (x ∷ []) q h = by q.2
  where
    by : MayBeComma s q.0 k → IsKind close s i j ⊎ (AnyOf P ▸ BehindMember P close) s i j
    by (inl e) = inr (q.0, (x, q.1), inl (subst (λ m. IsKind close s m j) e h))
    by (inr c) = inr (q.0, (x, q.1), inr (k, c, (k, ([], refl), h)))
list_split P close s i k j (x ∷ y ∷ ys) q h = inr (q.0, (x, q.1), inr (q.2.0, q.2.1, (k, (y ∷ ys, q.2.2), h)))

-- the reader stands where so much is left; each turn has taken a token at least
pub record IsLeftTo (P : Production) (a c : Cursor) (turn j : ℕ) : Type 0 where
  pub same : c ≡ record a { next = c.next }
  pub turns : turn + a.next < c.next
  pub left : P (source a) c.next j

pub left_at : {P : Production} {a c : Cursor} {turn j : ℕ} → IsLeftTo P a c turn j → P (source c) c.next j
left_at {P} {a} {c} {turn} {j} h = subst (λ (s : Source). P s c.next j) (sym (ap source h.same)) h.left

pub readable_at : {P : Production} {a c : Cursor} {turn j : ℕ} → IsLeftTo P a c turn j → IsReadable (source a) → IsReadable (source c)
readable_at {P} {a} {c} {turn} {j} h cut = subst IsReadable (sym (ap source h.same)) cut

-- behind what opens
pub left_first : {T : Type 0} {v : T} {P : Production} (a b : Cursor) (kind : TokenKind) (j : ℕ) → Completes a b (Ok v) (IsKind kind) → IsReadable (source a) → (IsKind kind ▸ P) (source a) a.next j → IsLeftTo P a b 0 j
left_first {T} {v} {P} a b kind j h cut p =
    let at : b ≡ record a { next = p.0 } = (h.ends cut p.0 p.1).ok in
    let place : b.next ≡ p.0 = ap (λ (x : Cursor). x.next) at in
    let more : p.0 ≡ a.next + 1 = p.1.1 in
    record { same = stays a b p.0 at; turns = omega arith; left = subst (λ m. P (source a) m j) (sym place) p.2 }

-- a list ahead
pub record IsListAhead {X : Type 0} (P : X → Production) (opener close : TokenKind) (a : Cursor) (j : ℕ) : Type 0 where
  pub begin : AllBegin P
  pub closer : IsCloser close
  pub solid : opener ≢ End
  pub readable : IsReadable (source a)
  pub is_list : (IsKind opener ▸ ListLeft P close) (source a) a.next j

-- a step on
pub left_on : {P Q : Production} {a c d : Cursor} {turn j : ℕ} (m : ℕ) → IsLeftTo P a c turn j → d ≡ record c { next = d.next } → m + c.next ≤ turn + d.next → Q (source c) d.next j → IsLeftTo Q a d m j
left_on {P} {Q} {a} {c} {d} {turn} {j} m h same more q = record {
  same = same ∙ ap (λ (x : Cursor). record x { next = d.next }) h.same;
  turns = (let x = h.turns in omega arith);
  left = subst (λ (s : Source). Q s d.next j) (ap source h.same) q;
}

-- an end that is eaten is that of all
pub left_ends : {T : Type 0} {v : T} {X : Type 0} (P : X → Production) (close : TokenKind) (a c d : Cursor) (turn j : ℕ) (eaten : Bool) → AllBegin P → IsListEnd close → IsReadable (source a) → IsLeftTo (ListLeft P close) a c turn j
    → (token_at (source c) c.next).kind ≡ close → Eats c d eaten (IsKind close) → ComesTo j a d (Ok v)
left_ends {T} {v} {X} P close a c d turn j eaten begin ender cut h seen eats = by (list_split P close (source c) c.next p.0 j p.1.0 p.1.1 p.2)
  where
    p : ListLeft P close (source c) c.next j
    p = left_at h

    by : IsKind close (source c) c.next j ⊎ (AnyOf P ▸ BehindMember P close) (source c) c.next j → ComesTo j a d (Ok v)
    by (inl e) = record { ok = (eats (readable_at h cut) j e).1 ∙ ap (λ (x : Cursor). record x { next = j }) h.same; memory = tt }
    by (inr m) = absurd (begins_no (source c) c.next m.0 close (end_marks close ender) (begin m.1.0 (source c) c.next m.0 m.1.1) seen)

-- else a member comes next
pub left_member : {X : Type 0} (P : X → Production) (close : TokenKind) (a c d : Cursor) (turn j : ℕ) (eaten : Bool) → IsReadable (source a) → IsLeftTo (ListLeft P close) a c turn j → Eats c d eaten (IsKind close) → eaten ≡ false
    → (AnyOf P ▸ BehindMember P close) (source c) c.next j
left_member {X} P close a c d turn j eaten cut h eats off = by (list_split P close (source c) c.next p.0 j p.1.0 p.1.1 p.2)
  where
    p : ListLeft P close (source c) c.next j
    p = left_at h

    by : IsKind close (source c) c.next j ⊎ (AnyOf P ▸ BehindMember P close) (source c) c.next j → (AnyOf P ▸ BehindMember P close) (source c) c.next j
    by (inl e) = absurd (let f : false ≡ true = sym off ∙ (eats (readable_at h cut) j e).0 in cc)
    by (inr m) = m

before_end : {X : Type 0} (P : X → Production) (close : TokenKind) (s : Source) (i j : ℕ) → IsListEnd close → BehindMember P close s i j → IsListEnd (token_at s i).kind
before_end P close s i j ender (inl e) = subst IsListEnd (sym e.0) ender
before_end P close s i j ender (inr e) = inl e.1.0

pub member_ahead : {X : Type 0} (P : X → Production) (close : TokenKind) (c : Cursor) (j : ℕ) → IsListEnd close → (m : (AnyOf P ▸ BehindMember P close) (source c) c.next j) → BeforeEnd (AnyOf P) (source c) c.next m.0
member_ahead P close c j ender m = (m.1, before_end P close (source c) m.0 j ender m.2)

-- a member is read
pub member_read : {T : Type 0} {v : T} {X : Type 0} (P : X → Production) (close : TokenKind) (a c d e : Cursor) (turn j : ℕ) (eaten : Bool) → AllBegin P → IsListEnd close → IsReadable (source a) → IsLeftTo (ListLeft P close) a c turn j
    → Eats c d eaten (IsKind close) → eaten ≡ false → d ≡ c → Completes d e (Ok v) (BeforeEnd (AnyOf P)) → IsLeftTo (BehindMember P close) a e (turn + 1) j
member_read {T} {v} {X} P close a c d e turn j eaten begin ender cut h eats off same reads =
    let m = left_member P close a c d turn j eaten cut h eats off in
    let ahead : BeforeEnd (AnyOf P) (source d) d.next m.0 = subst (λ (x : Cursor). BeforeEnd (AnyOf P) (source x) x.next m.0) (sym same) (member_ahead P close c j ender m) in
    let at : e ≡ record c { next = m.0 } = (reads.ends (subst (λ (x : Cursor). IsReadable (source x)) (sym same) (readable_at h cut)) m.0 ahead).ok ∙ ap (λ (x : Cursor). record x { next = m.0 }) same in
    let place : e.next ≡ m.0 = ap (λ (x : Cursor). x.next) at in
    let more : c.next < m.0 = (begin m.1.0 (source c) c.next m.0 m.1.1).0 in
    left_on (turn + 1) h (stays c e m.0 at) (omega arith) (subst (λ k. BehindMember P close (source c) k j) (sym place) m.2)

pub member_memory : {x : Fault} {T : Type 0} {X : Type 0} (P : X → Production) (close : TokenKind) (a c d e : Cursor) (turn j : ℕ) (eaten : Bool) → IsListEnd close → IsReadable (source a) → IsLeftTo (ListLeft P close) a c turn j
    → Eats c d eaten (IsKind close) → eaten ≡ false → d ≡ c → Completes {T = T} d e (Err x) (BeforeEnd (AnyOf P)) → x ≡ Memory
member_memory {x} {T} {X} P close a c d e turn j eaten ender cut h eats off same reads =
    let m = left_member P close a c d turn j eaten cut h eats off in
    let ahead : BeforeEnd (AnyOf P) (source d) d.next m.0 = subst (λ (x : Cursor). BeforeEnd (AnyOf P) (source x) x.next m.0) (sym same) (member_ahead P close c j ender m) in
    (reads.ends (subst (λ (x : Cursor). IsReadable (source x)) (sym same) (readable_at h cut)) m.0 ahead).memory

-- a comma behind it
pub comma_read : {X : Type 0} (P : X → Production) (close : TokenKind) (a c d : Cursor) (turn j : ℕ) (eaten : Bool) → IsListEnd close → IsReadable (source a) → IsLeftTo (BehindMember P close) a c turn j
    → (token_at (source c) c.next).kind ≡ Comma → close ≢ Comma → Eats c d eaten (IsKind Comma) → IsLeftTo (ListLeft P close) a d turn j
comma_read {X} P close a c d turn j eaten ender cut h seen other eats = by (left_at h)
  where
    by : BehindMember P close (source c) c.next j → IsLeftTo (ListLeft P close) a d turn j
    by (inl e) = absurd (other (sym e.0 ∙ seen))
    by (inr m) =
        let at : d ≡ record c { next = m.0 } = (eats (readable_at h cut) m.0 m.1).1 in
        let place : d.next ≡ m.0 = ap (λ (x : Cursor). x.next) at in
        let more : m.0 ≡ c.next + 1 = m.1.1 in
        left_on turn h (stays c d m.0 at) (omega arith) (subst (λ k. ListLeft P close (source c) k j) (sym place) m.2)

-- no comma, so the end
pub end_behind : {X : Type 0} (P : X → Production) (close : TokenKind) (a c d : Cursor) (turn j : ℕ) (eaten : Bool) → IsReadable (source a) → IsLeftTo (BehindMember P close) a c turn j → Eats c d eaten (IsKind Comma) → eaten ≡ false → d ≡ c
    → IsKind close (source d) d.next j
end_behind {X} P close a c d turn j eaten cut h eats off same = by (left_at h)
  where
    by : BehindMember P close (source c) c.next j → IsKind close (source d) d.next j
    by (inl e) = subst (λ (x : Cursor). IsKind close (source x) x.next j) (sym same) e
    by (inr m) = absurd (let f : false ≡ true = sym off ∙ (eats (readable_at h cut) m.0 m.1).0 in cc)

pub end_read : {T : Type 0} {v : T} {X : Type 0} (P : X → Production) (close : TokenKind) (a c d e : Cursor) (turn j : ℕ) (eaten ended : Bool) → IsReadable (source a) → IsLeftTo (BehindMember P close) a c turn j → Eats c d eaten (IsKind Comma) → eaten ≡ false → d ≡ c
    → Eats d e ended (IsKind close) → ComesTo j a e (Ok v)
end_read {T} {v} {X} P close a c d e turn j eaten ended cut h eats off same ends = record {
  ok = (ends (subst (λ (x : Cursor). IsReadable (source x)) (sym same) (readable_at h cut)) j (end_behind P close a c d turn j eaten cut h eats off same)).1
      ∙ ap (λ (x : Cursor). record x { next = j }) (same ∙ h.same);
  memory = tt;
}

pub end_missing : {X : Type 0} (P : X → Production) (close : TokenKind) (a c d e : Cursor) (turn j : ℕ) (eaten ended : Bool) → IsReadable (source a) → IsLeftTo (BehindMember P close) a c turn j → Eats c d eaten (IsKind Comma) → eaten ≡ false → d ≡ c
    → Eats d e ended (IsKind close) → ended ≡ false → ⊥
end_missing {X} P close a c d e turn j eaten ended cut h eats off same ends none =
    let f : false ≡ true = sym none ∙ (ends (subst (λ (x : Cursor). IsReadable (source x)) (sym same) (readable_at h cut)) j (end_behind P close a c d turn j eaten cut h eats off same)).0 in cc

-- each turn takes a token, so something is left as long as there are turns
pub list_over : {X : Type 0} (P : X → Production) (close : TokenKind) (a c : Cursor) (turn j : ℕ) → AllBegin P → IsListEnd close → IsLeftTo (ListLeft P close) a c turn j → length (source c).tokens ≤ turn → ⊥
list_over {X} P close a c turn j begin ender h all = by (list_split P close (source c) c.next p.0 j p.1.0 p.1.1 p.2)
  where
    p : ListLeft P close (source c) c.next j
    p = left_at h

    past : (token_at (source c) c.next).kind ≡ End
    past = kind_past (source c) c.next (let x = h.turns in omega arith)

    by : IsKind close (source c) c.next j ⊎ (AnyOf P ▸ BehindMember P close) (source c) c.next j → ⊥
    by (inl e) = end_solid close ender (sym past ∙ e.0)
    by (inr m) = begins_no (source c) c.next m.0 End (λ f. cc, λ f. cc, λ f. cc) (begin m.1.0 (source c) c.next m.0 m.1.1) past

pub list_past : {X : Type 0} (P : X → Production) (close : TokenKind) (a b c : Cursor) (turn j : ℕ) → AllBegin P → IsListEnd close → b ≡ record a { next = b.next } → IsLeftTo (ListLeft P close) a c turn j → length (source b).tokens ≤ turn → ⊥
list_past P close a b c turn j begin ender same h all = list_over P close a c turn j begin ender h (subst (λ (s : Source). length s.tokens ≤ turn) (ap source same ∙ sym (ap source h.same)) all)

-- ---- blocks

abbrev pub BlockLeft : {X : Type 0} → (X → Production) → Production
BlockLeft P = AnyOf (InOrder P) ▸ IsKind CloseBrace

-- a block ahead
pub record IsBlockAhead {X : Type 0} (P : X → Production) (a : Cursor) (j : ℕ) : Type 0 where
  pub begin : AllBegin P
  pub readable : IsReadable (source a)
  pub is_block : (IsKind OpenBrace ▸ BlockLeft P) (source a) a.next j

pub block_parts : {X : Type 0} (P : X → Production) (s : Source) (i j : ℕ) → AnyOf (IsBlock P) s i j → (IsKind OpenBrace ▸ BlockLeft P) s i j
block_parts P s i j p = (p.1.0, p.1.1, (p.1.2.0, (p.0, p.1.2.1), p.1.2.2))

block_split : {X : Type 0} (P : X → Production) (s : Source) (i k j : ℕ) (xs : List X) → InOrder P xs s i k → IsKind CloseBrace s k j → IsKind CloseBrace s i j ⊎ (AnyOf P ▸ BlockLeft P) s i j
block_split P s i k j [] e h = inl (subst (λ m. IsKind CloseBrace s m j) e h)
block_split P s i k j (x ∷ xs) q h = inr (q.0, (x, q.1), (k, (xs, q.2), h))

pub block_ends : {T : Type 0} {v : T} {X : Type 0} (P : X → Production) (a c d : Cursor) (turn j : ℕ) (eaten : Bool) → AllBegin P → IsReadable (source a) → IsLeftTo (BlockLeft P) a c turn j
    → (token_at (source c) c.next).kind ≡ CloseBrace → Eats c d eaten (IsKind CloseBrace) → ComesTo j a d (Ok v)
block_ends {T} {v} {X} P a c d turn j eaten begin cut h seen eats = by (block_split P (source c) c.next p.0 j p.1.0 p.1.1 p.2)
  where
    p : BlockLeft P (source c) c.next j
    p = left_at h

    by : IsKind CloseBrace (source c) c.next j ⊎ (AnyOf P ▸ BlockLeft P) (source c) c.next j → ComesTo j a d (Ok v)
    by (inl e) = record { ok = (eats (readable_at h cut) j e).1 ∙ ap (λ (x : Cursor). record x { next = j }) h.same; memory = tt }
    by (inr m) = absurd (begins_no (source c) c.next m.0 CloseBrace (λ f. cc, λ f. cc, λ f. cc) (begin m.1.0 (source c) c.next m.0 m.1.1) seen)

pub block_item : {X : Type 0} (P : X → Production) (a c d : Cursor) (turn j : ℕ) (eaten : Bool) → IsReadable (source a) → IsLeftTo (BlockLeft P) a c turn j → Eats c d eaten (IsKind CloseBrace) → eaten ≡ false → d ≡ c
    → (AnyOf P ▸ BlockLeft P) (source d) d.next j
block_item {X} P a c d turn j eaten cut h eats off same = subst (λ (x : Cursor). (AnyOf P ▸ BlockLeft P) (source x) x.next j) (sym same) (by (block_split P (source c) c.next p.0 j p.1.0 p.1.1 p.2))
  where
    p : BlockLeft P (source c) c.next j
    p = left_at h

    by : IsKind CloseBrace (source c) c.next j ⊎ (AnyOf P ▸ BlockLeft P) (source c) c.next j → (AnyOf P ▸ BlockLeft P) (source c) c.next j
    by (inl e) = absurd (let f : false ≡ true = sym off ∙ (eats (readable_at h cut) j e).0 in cc)
    by (inr m) = m

pub item_read : {T : Type 0} {v : T} {X : Type 0} (P : X → Production) (a c d e : Cursor) (turn j : ℕ) (eaten : Bool) → AllBegin P → IsReadable (source a) → IsLeftTo (BlockLeft P) a c turn j → Eats c d eaten (IsKind CloseBrace) → eaten ≡ false → d ≡ c
    → Completes d e (Ok v) (AnyOf P) → IsLeftTo (BlockLeft P) a e (turn + 1) j
item_read {T} {v} {X} P a c d e turn j eaten begin cut h eats off same reads =
    let m = block_item P a c d turn j eaten cut h eats off same in
    let at : e ≡ record c { next = m.0 } = (reads.ends (subst (λ (x : Cursor). IsReadable (source x)) (sym same) (readable_at h cut)) m.0 m.1).ok ∙ ap (λ (x : Cursor). record x { next = m.0 }) same in
    let place : e.next ≡ m.0 = ap (λ (x : Cursor). x.next) at in
    let stood : d.next ≡ c.next = ap (λ (x : Cursor). x.next) same in
    let more : d.next < m.0 = (begin m.1.0 (source d) d.next m.0 m.1.1).0 in
    left_on (turn + 1) h (stays c e m.0 at) (omega arith) (subst (λ (s : Source). BlockLeft P s e.next j) (ap source same) (subst (λ k. BlockLeft P (source d) k j) (sym place) m.2))

pub item_memory : {x : Fault} {T : Type 0} {X : Type 0} (P : X → Production) (a c d e : Cursor) (turn j : ℕ) (eaten : Bool) → IsReadable (source a) → IsLeftTo (BlockLeft P) a c turn j → Eats c d eaten (IsKind CloseBrace) → eaten ≡ false → d ≡ c
    → Completes {T = T} d e (Err x) (AnyOf P) → x ≡ Memory
item_memory {x} {T} {X} P a c d e turn j eaten cut h eats off same reads =
    let m = block_item P a c d turn j eaten cut h eats off same in
    (reads.ends (subst (λ (x : Cursor). IsReadable (source x)) (sym same) (readable_at h cut)) m.0 m.1).memory

pub block_over : {X : Type 0} (P : X → Production) (a c : Cursor) (turn j : ℕ) → AllBegin P → IsLeftTo (BlockLeft P) a c turn j → length (source c).tokens ≤ turn → ⊥
block_over {X} P a c turn j begin h all = by (block_split P (source c) c.next p.0 j p.1.0 p.1.1 p.2)
  where
    p : BlockLeft P (source c) c.next j
    p = left_at h

    past : (token_at (source c) c.next).kind ≡ End
    past = kind_past (source c) c.next (let x = h.turns in omega arith)

    by : IsKind CloseBrace (source c) c.next j ⊎ (AnyOf P ▸ BlockLeft P) (source c) c.next j → ⊥
    by (inl e) = let f : End ≡ CloseBrace = sym past ∙ e.0 in cc
    by (inr m) = begins_no (source c) c.next m.0 End (λ f. cc, λ f. cc, λ f. cc) (begin m.1.0 (source c) c.next m.0 m.1.1) past

pub block_past : {X : Type 0} (P : X → Production) (a b c : Cursor) (turn j : ℕ) → AllBegin P → b ≡ record a { next = b.next } → IsLeftTo (BlockLeft P) a c turn j → length (source b).tokens ≤ turn → ⊥
block_past P a b c turn j begin same h all = block_over P a c turn j begin h (subst (λ (s : Source). length s.tokens ≤ turn) (ap source same ∙ sym (ap source h.same)) all)
