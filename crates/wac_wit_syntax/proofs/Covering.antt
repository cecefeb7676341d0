-- What is read one behind another.
use Rattle.std.proofs.Common.{◌≡◌, ℕ, ◌+◌, ◌-◌, ap, ap₂, ◌∙◌, subst, arith}
use Rattle.wac_wit_syntax.specs.Cursors.{HasNoRefusal, Reads, source}
use Rattle.wac_wit_syntax.specs.Productions.{◌▸◌, IsKind, IsName, IsSpan, Nothing, Production, Source, Spanning, token_at}
use Rattle.wac_wit_syntax.specs.declared.positions.Span.{Span}
use Rattle.wac_wit_syntax.specs.declared.token.TokenKind.{TokenKind}
use Rattle.wac_wit_syntax.specs.declared.tree.Ident.{Ident}
use Rattle.wac_wit_syntax.specs.declared.cursor.Cursor.{Cursor}

pub reads_then : {c d e : Cursor} {P Q : Production} → Reads c d P → Reads d e Q → Reads c e (P ▸ Q)
reads_then {c} {d} {e} {P} {Q} h g = record {
  quiet = λ q. h.quiet (g.quiet q);
  same = λ q. g.same q ∙ h.same (g.quiet q);
  read = λ q. (d.next, h.read (g.quiet q), subst (λ (s : Source). Q s d.next e.next) (h.same (g.quiet q)) (g.read q));
}

-- one production for another
pub reads_as : {c d : Cursor} {P Q : Production} → Reads c d P → ((s : Source) (i j : ℕ) → P s i j → Q s i j) → Reads c d Q
reads_as {c} {d} {P} {Q} h f = record {
  quiet = h.quiet;
  same = h.same;
  read = λ q. f (source c) c.next d.next (h.read q);
}

pub reads_nothing : (c d : Cursor) → d ≡ c → Reads c d Nothing
reads_nothing c d e = record {
  quiet = λ q. subst HasNoRefusal e q;
  same = λ q. ap source e;
  read = λ q. ap (λ (x : Cursor). x.next) e;
}

-- where something is refused, nothing is said
pub reads_refused : (c d : Cursor) (P : Production) → (HasNoRefusal d → ⊥) → Reads c d P
reads_refused c d P h = record {
  quiet = λ q. absurd (h q);
  same = λ q. absurd (h q);
  read = λ q. absurd (h q);
}

-- ---- places

behind_one : (j k : ℕ) → j ≡ k + 1 → k ≡ j - 1
behind_one j k e = omega arith

pub span_between : (first last span : Span) (s : Source) (i j : ℕ) → span ≡ record { start = first.start; end = last.end } → first ≡ (token_at s i).span → last ≡ (token_at s (j - 1)).span → IsSpan span s i j
span_between first last span s i j e f l = e ∙ ap₂ (λ (a b : Span). record { start = a.start; end = b.end }) f l

-- from the first token, which was looked at, to the last that was taken
pub reads_spanning : {c d : Cursor} {P : Production} → Reads c d P → (first last span : Span) → first ≡ (token_at (source c) c.next).span → last ≡ (token_at (source d) (d.next - 1)).span
    → span ≡ record { start = first.start; end = last.end } → Reads c d (Spanning span P)
reads_spanning {c} {d} {P} h first last span f l e = record {
  quiet = h.quiet;
  same = h.same;
  read = λ q. (h.read q, span_between first last span (source c) c.next d.next e f (l ∙ ap (λ (s : Source). (token_at s (d.next - 1)).span) (h.same q)));
}

-- from what it begins with to the last token that was taken
pub reads_spanning_from : {c d : Cursor} {P : Production} → Reads c d P → (first last span : Span) → ((s : Source) (i j : ℕ) → P s i j → first ≡ (token_at s i).span)
    → last ≡ (token_at (source d) (d.next - 1)).span → span ≡ record { start = first.start; end = last.end } → Reads c d (Spanning span P)
reads_spanning_from {c} {d} {P} h first last span f l e = record {
  quiet = h.quiet;
  same = h.same;
  read = λ q. (let r = h.read q in (r, span_between first last span (source c) c.next d.next e (f (source c) c.next d.next r) (l ∙ ap (λ (s : Source). (token_at s (d.next - 1)).span) (h.same q))));
}

-- from a name to a name
pub span_of_names : (id last : Ident) (kind : TokenKind) (span : Span) → span ≡ record { start = id.span.start; end = last.span.end }
    → (s : Source) (i j : ℕ) → (IsName id ▸ IsKind kind ▸ IsName last) s i j → Spanning span (IsName id ▸ IsKind kind ▸ IsName last) s i j
span_of_names id last kind span e s i j h =
    let n = h.2.2 in
    (h, span_between id.span last.span span s i j e h.1.1 (n.1 ∙ ap (λ m. (token_at s m).span) (behind_one j h.2.0 n.2)))
