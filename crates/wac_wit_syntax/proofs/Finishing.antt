-- One thing behind another is read up to where it ends.
use Rattle.std.proofs.Common.{◌≡◌, ◌≢◌, ℕ, ◌+◌, Bool, true, false, Result, Ok, Err, OnOk, IfErr, IsErr, sym, ap, ◌∙◌, subst}
use Rattle.std.specs.Result.{IsErrAnd}
use Rattle.wac_wit_syntax.specs.Completing.{ComesTo, Completes, Eats, IsReadable}
use Rattle.wac_wit_syntax.specs.Cursors.{source}
use Rattle.wac_wit_syntax.specs.Productions.{◌▸◌, IsKind, Production, Source, token_at}
use Rattle.wac_wit_syntax.specs.declared.cursor.Cursor.{Cursor}
use Rattle.wac_wit_syntax.specs.declared.error.Fault.{Fault}
use Rattle.wac_wit_syntax.specs.declared.error.Fault.TheVariants.{Memory}
use Rattle.wac_wit_syntax.specs.declared.token.Token.{Token}
use Rattle.wac_wit_syntax.specs.declared.token.TokenKind.{TokenKind}
use Rattle.wac_wit_syntax.specs.declared.token.TokenKind.TheVariants.{End}

-- from an earlier place on
ok_later : {T : Type 0} (c d e : Cursor) (k j : ℕ) (r : Result T Fault) → d ≡ record c { next = k } → OnOk r (e ≡ record d { next = j }) → OnOk r (e ≡ record c { next = j })
ok_later c d e k j (Ok v) at h = h ∙ ap (λ (x : Cursor). record x { next = j }) at
ok_later c d e k j (Err x) at h = tt

pub completes_then : {T U : Type 0} {c d e : Cursor} {v : U} {r : Result T Fault} {P Q : Production} → Completes c d (Ok v) P → Completes d e r Q → Completes c e r (P ▸ Q)
completes_then {T} {U} {c} {d} {e} {v} {r} {P} {Q} h g = record {
  ends = λ cut j p.
      let at : d ≡ record c { next = p.0 } = (h.ends cut p.0 p.1).ok in
      let same : source d ≡ source c = ap source at in
      let place : d.next ≡ p.0 = ap (λ (x : Cursor). x.next) at in
      let behind : Q (source d) d.next j = subst (λ (s : Source). Q s d.next j) (sym same) (subst (λ i. Q (source c) i j) (sym place) p.2) in
      let end = g.ends (subst IsReadable (sym same) cut) j behind in
      record { ok = ok_later c d e p.0 j r at end.ok; memory = end.memory };
}

-- the error that was handed on
pub failed_ok : {T : Type 0} (r : Result T Fault) (P : Type 0) → IsErr r → OnOk r P
failed_ok (Ok v) P e = absurd (let f : false ≡ true = e in cc)
failed_ok (Err x) P e = tt

pub failed_memory : {T : Type 0} (r : Result T Fault) (x : Fault) → IsErr r × IsErrAnd r (λ y. y ≡ x) → x ≡ Memory → IfErr r (λ fault. fault ≡ Memory)
failed_memory (Ok v) x e m = tt
failed_memory (Err y) x e m = e.1 ∙ m

-- where a part fails, memory has run out
pub completes_failed : {T U : Type 0} {c d e : Cursor} {x : Fault} {r : Result T Fault} {P Q : Production} → Completes {T = U} c d (Err x) P → IsErr r × IsErrAnd r (λ y. y ≡ x) → Completes c e r (P ▸ Q)
completes_failed {T} {U} {c} {d} {e} {x} {r} {P} {Q} h f = record { ends = λ cut j p. record { ok = failed_ok r (e ≡ record c { next = j }) f.0; memory = failed_memory r x f (h.ends cut p.0 p.1).memory } }

-- the same of the last part
pub completes_as_failed : {T U : Type 0} {c d e : Cursor} {x : Fault} {r : Result T Fault} {P : Production} → Completes {T = U} c d (Err x) P → IsErr r × IsErrAnd r (λ y. y ≡ x) → Completes c e r P
completes_as_failed {T} {U} {c} {d} {e} {x} {r} {P} h f = record { ends = λ cut j p. record { ok = failed_ok r (e ≡ record c { next = j }) f.0; memory = failed_memory r x f (h.ends cut j p).memory } }

-- another value is answered
pub completes_with : {T U : Type 0} {c d : Cursor} {v : U} {w : T} {P : Production} → Completes c d (Ok v) P → Completes c d (Ok w) P
completes_with {T} {U} {c} {d} {v} {w} {P} h = record { ends = λ cut j p. record { ok = (h.ends cut j p).ok; memory = tt } }

-- one production for another
pub completes_weaker : {T : Type 0} {c d : Cursor} {r : Result T Fault} {P Q : Production} → ((s : Source) (i j : ℕ) → Q s i j → P s i j) → Completes c d r P → Completes c d r Q
completes_weaker {T} {c} {d} {r} {P} {Q} f h = record { ends = λ cut j q. h.ends cut j (f (source c) c.next j q) }

-- a token is taken, whatever it is
pub completes_take : (c d : Cursor) (kind : TokenKind) (taken : Token) → kind ≢ End → taken ≡ token_at (source c) c.next → d ≡ record c { next = d.next } → (taken.kind ≢ End → d.next ≡ c.next + 1) → Completes c d (Ok (tt {0})) (IsKind kind)
completes_take c d kind taken solid token same next = record {
  ends = λ cut j p.
      let is : taken.kind ≡ kind = ap (λ (t : Token). t.kind) token ∙ p.0 in
      let place : d.next ≡ j = next (λ e. solid (sym is ∙ e)) ∙ sym p.1 in
      record { ok = same ∙ ap (λ n. record c { next = n }) place; memory = tt };
}

-- the kind of the token where a cursor stands that came to a place
pub kind_there : (c d : Cursor) (j : ℕ) (kind : TokenKind) → d ≡ record c { next = j } → (token_at (source d) d.next).kind ≡ kind → (token_at (source c) j).kind ≡ kind
kind_there c d j kind at seen = sym (ap (λ (x : Cursor). (token_at (source x) x.next).kind) at) ∙ seen

-- a word that is eaten wherever it comes next
pub completes_eaten : (c d : Cursor) (eaten : Bool) (P : Production) → Eats c d eaten P → Completes c d (Ok (tt {0})) P
completes_eaten c d eaten P h = record { ends = λ cut j p. record { ok = (h cut j p).1; memory = tt } }

-- what wasn't eaten didn't come next
pub completes_uneaten : {T : Type 0} {e : Cursor} {r : Result T Fault} {Q : Production} (c d : Cursor) (eaten : Bool) (P : Production) → Eats c d eaten P → eaten ≡ false → Completes c e r (P ▸ Q)
completes_uneaten {T} {e} {r} {Q} c d eaten P h left = record { ends = λ cut j p. absurd (let f : false ≡ true = sym left ∙ (h cut p.0 p.1).0 in cc) }

-- the same where the cursor stands
pub completes_from : {T : Type 0} {c d : Cursor} {r : Result T Fault} {P Q : Production} → ((j : ℕ) → Q (source c) c.next j → P (source c) c.next j) → Completes c d r P → Completes c d r Q
completes_from {T} {c} {d} {r} {P} {Q} f h = record { ends = λ cut j q. h.ends cut j (f j q) }

pub completes_given : {T : Type 0} {c d : Cursor} {r : Result T Fault} {P Q : Production} → (IsReadable (source c) → (j : ℕ) → Q (source c) c.next j → P (source c) c.next j) → Completes c d r P → Completes c d r Q
completes_given {T} {c} {d} {r} {P} {Q} f h = record { ends = λ cut j q. h.ends cut j (f cut j q) }

-- from where the cursor is left as it is
pub completes_there : {T : Type 0} {b c d : Cursor} {r : Result T Fault} {P : Production} → b ≡ c → Completes c d r P → Completes b d r P
completes_there {T} {b} {c} {d} {r} {P} e h = subst (λ (x : Cursor). Completes x d r P) (sym e) h

-- at a place that a cursor came to before
pub comes_later : {T : Type 0} (c d e : Cursor) (k j : ℕ) (r : Result T Fault) → d ≡ record c { next = k } → ComesTo j d e r → ComesTo j c e r
comes_later {T} c d e k j r at h = record { ok = ok_later c d e k j r at h.ok; memory = h.memory }
