-- The attributes that are left are read one after the other.
use Rattle.std.specs.Prelude.{⊤}
use Rattle.std.proofs.Common.{◌≡◌, ◌≢◌, ◌⊎◌, ℕ, ◌<◌, Bool, true, false, codes, List, Option, Some, None, Result, Ok, Err, OnOk, IfErr, get_or, inl, inr, refl, sym, ap, ◌∙◌, subst, arith, ◌≤◌, ◌+◌, length, unwrap_or}
use Rattle.std.proofs.lemmas.Option.{slice_get_past}
use Rattle.wac_model.specs.Text.{Text}
use Rattle.wac_wit_syntax.specs.Completing.{AnyOf, IsReadable, Completes, Eats, NotBefore}
use Rattle.wac_wit_syntax.specs.Cursors.{source}
use Rattle.wac_wit_syntax.specs.Gates.{AreExclusive, AreGates, IsGate, IsGateField, IsGates}
use Rattle.wac_wit_syntax.specs.Gates as whole
use Rattle.wac_wit_syntax.specs.GateParts.{AreGatesLeft, GateNext, GatesGoOn, TakesGate, IsGateRest, has_gate, end, since, unstable, deprecated}
use Rattle.wac_wit_syntax.specs.Productions.{◌▸◌, IsKind, SaysWord, Source, token_at}
use Rattle.wac_wit_syntax.specs.declared.cursor.Cursor.{Cursor}
use Rattle.wac_wit_syntax.specs.declared.error.Fault.{Fault}
use Rattle.wac_wit_syntax.specs.declared.error.Fault.TheVariants.{Memory}
use Rattle.wac_wit_syntax.specs.declared.tree.Gates.{Gates}
use Rattle.wac_wit_syntax.specs.declared.token.Token.{Token}
use Rattle.wac_wit_syntax.specs.declared.token.TokenKind.TheVariants.{At, End, CloseParen, OpenParen, Word}
use Rattle.wac_wit_syntax.specs.declared.tree.Gate.{Gate}

none_there : (o : Option Gate) → has_gate o ≡ false → o ≡ None
none_there None e = refl
none_there (Some g) e = absurd (let f : true ≡ false = e in cc)

field_longer : (f : Bool) (g : Gate) (s : Source) (i j : ℕ) → IsGateField f g s i j → i < j
field_longer false g s i j h = let a = h.1.1 in let b = h.2.1.1 in let c = h.2.2.4 in omega (arith, a, b, c)
field_longer true g s i j h = let a = h.1.1 in let b = h.2.1.1 in let c = h.2.2.2 in omega (arith, a, b, c)

pub rest_longer : (w : Text) (f : Bool) (s : Source) (i j : ℕ) → IsGateRest w f s i j → i < j
rest_longer w f s i j h =
    let a = h.1.1 in let b = h.2.1.1 in let c = field_longer f h.2.2.1.0 s h.2.0 h.2.2.0 h.2.2.1.1 in let d = h.2.2.2.1 in
    omega (arith, a, b, c, d)

-- ---- turned round: the attributes from the first on

pub gate_rest : (w : Text) (f : Bool) (g : Gate) (s : Source) (i j : ℕ) → IsGate w f g s i j → (IsKind At ▸ IsGateRest w f) s i j
gate_rest w f g s i j h = (h.0, h.1, (h.2.0, h.2.1, (h.2.2.0, h.2.2.1, (h.2.2.2.0, (g, h.2.2.2.1), h.2.2.2.2))))

pub turned : (s : Source) (n u d : Option Gate) (i k j : ℕ) → (n ≡ None) ⊎ (u ≡ None) → AreGates s n u d i k → AreGatesLeft s (has_gate n) (has_gate u) (has_gate d) k j → AreGatesLeft s false false false i j
turned s None None None i k j x whole.none h = h
turned s (Some g) None d i k j x (whole.since {k = m} a b) h = let r = gate_rest (codes "since") false g s m k b in turned s None None d i m j (inl refl) a (since r.1 r.2 h)
turned s (Some g) (Some v) d i k j (inl e) (whole.since a b) h = absurd (let f : Some g ≡ None = e in cc)
turned s (Some g) (Some v) d i k j (inr e) (whole.since a b) h = absurd (let f : Some v ≡ None = e in cc)
turned s None (Some g) d i k j x (whole.unstable {k = m} a b) h = let r = gate_rest (codes "unstable") true g s m k b in turned s None None d i m j (inl refl) a (unstable r.1 r.2 h)
turned s (Some v) (Some g) d i k j (inl e) (whole.unstable a b) h = absurd (let f : Some v ≡ None = e in cc)
turned s (Some v) (Some g) d i k j (inr e) (whole.unstable a b) h = absurd (let f : Some g ≡ None = e in cc)
turned s n u (Some g) i k j x (whole.deprecated {k = m} a b) h = let r = gate_rest (codes "deprecated") false g s m k b in turned s n u None i m j x a (deprecated r.1 r.2 h)

-- none is left, or one comes next
pub left_at : (s : Source) (n u d : Bool) (i j : ℕ) → AreGatesLeft s n u d i j → (j ≡ i) ⊎ (IsKind At ▸ GateNext n u d) s i j
left_at s n u d i j end = inl refl
left_at s false false d i j (since {k = k} {m = m} a b h) = inr (k, a, inl (refl, refl, (m, b, h)))
left_at s false false d i j (unstable {k = k} {m = m} a b h) = inr (k, a, inr (inl (refl, refl, (m, b, h))))
left_at s n u false i j (deprecated {k = k} {m = m} a b h) = inr (k, a, inr (inr (refl, (m, b, h))))

-- ---- one of them

other_first : (v w : Text) (s : Source) (i : ℕ) → (get_or v 0 0 ≢ get_or w 0 0) → SaysWord s i v → SaysWord s i w → ⊥
other_first v w s i n a b = n (ap (λ (t : List ℕ). get_or t 0 0) (sym a.1 ∙ b.1))

tokens : (w : Text) (f : Bool) (s : Source) (i j : ℕ) → IsGateRest w f s i j → (IsKind Word ▸ IsKind OpenParen ▸ AnyOf (IsGateField f) ▸ IsKind CloseParen) s i j
tokens w f s i j h = (h.0, (h.1.0.0, h.1.1), h.2)

-- the tokens behind the `@`
abbrev pub Takes : Cursor → Cursor → Result ⊤ Fault → Bool → Type 0
Takes c d r f = Completes c d r (IsKind Word ▸ IsKind OpenParen ▸ AnyOf (IsGateField f) ▸ IsKind CloseParen)

went : (c d : Cursor) (w : Text) (f : Bool) (n u p : Option Gate) (k j : ℕ) → d ≡ record c { next = k } → IsGateRest w f (source c) c.next k → AreGatesLeft (source c) (has_gate n) (has_gate u) (has_gate p) k j → (n ≡ None) ⊎ (u ≡ None) → GatesGoOn c d n u p j
went c d w f n u p k j at h left only =
    let place : d.next ≡ k = ap (λ (x : Cursor). x.next) at in
    record {
      same = at ∙ ap (λ m. record c { next = m }) (sym place);
      further = subst (λ m. c.next < m) (sym place) (rest_longer w f (source c) c.next k h);
      left = subst (λ m. AreGatesLeft (source c) (has_gate n) (has_gate u) (has_gate p) m j) (sym place) left;
      exclusive = only;
    }

some_left : (s : Source) (n : Option Gate) (g : Gate) (u : Bool) (d : Bool) (k j : ℕ) → n ≡ Some g → AreGatesLeft s true u d k j → AreGatesLeft s (has_gate n) u d k j
some_left s n g u d k j e h = subst (λ o. AreGatesLeft s (has_gate o) u d k j) (sym e) h

some_second : (s : Source) (n : Bool) (o : Option Gate) (g : Gate) (d : Bool) (k j : ℕ) → o ≡ Some g → AreGatesLeft s n true d k j → AreGatesLeft s n (has_gate o) d k j
some_second s n o g d k j e h = subst (λ x. AreGatesLeft s n (has_gate x) d k j) (sym e) h

some_third : (s : Source) (n u : Bool) (o : Option Gate) (g : Gate) (k j : ℕ) → o ≡ Some g → AreGatesLeft s n u true k j → AreGatesLeft s n u (has_gate o) k j
some_third s n u o g k j e h = subst (λ x. AreGatesLeft s n u (has_gate x) k j) (sym e) h

-- what is read where the word is this, and where the attributes are told as they were and as they are
pub after_since : (c d : Cursor) (n m u p : Option Gate) (r : Result ⊤ Fault) → (n ≡ None → Takes c d r false) → OnOk r ((g : Gate) × (m ≡ Some g)) → SaysWord (source c) c.next (codes "since")
    → IsReadable (source c) → (j : ℕ) → GateNext (has_gate n) (has_gate u) (has_gate p) (source c) c.next j → OnOk r (GatesGoOn c d m u p j) × IfErr r (λ fault. fault ≡ Memory)
after_since c d n m u p r h g says cut j (inr (inl x)) = absurd (other_first (codes "since") (codes "unstable") (source c) c.next (λ e. absurd (omega (arith, e))) says x.2.1.1.0)
after_since c d n m u p r h g says cut j (inr (inr x)) = absurd (other_first (codes "since") (codes "deprecated") (source c) c.next (λ e. absurd (omega (arith, e))) says x.1.1.1.0)
after_since c d n m u p (Err x) h g says cut j (inl y) = (tt, ((h (none_there n y.0)).ends cut y.2.0 (tokens (codes "since") false (source c) c.next y.2.0 y.2.1)).memory)
after_since c d n m u p (Ok v) h g says cut j (inl y) =
    let at = ((h (none_there n y.0)).ends cut y.2.0 (tokens (codes "since") false (source c) c.next y.2.0 y.2.1)).ok in
    let left = subst (λ b. AreGatesLeft (source c) true b (has_gate p) y.2.0 j) (sym y.1) y.2.2 in
    (went c d (codes "since") false m u p y.2.0 j at y.2.1 (some_left (source c) m g.0 (has_gate u) (has_gate p) y.2.0 j g.1 left) (inr (none_there u y.1)), tt)

pub after_unstable : (c d : Cursor) (n u m p : Option Gate) (r : Result ⊤ Fault) → (u ≡ None → Takes c d r true) → OnOk r ((g : Gate) × (m ≡ Some g)) → SaysWord (source c) c.next (codes "unstable")
    → IsReadable (source c) → (j : ℕ) → GateNext (has_gate n) (has_gate u) (has_gate p) (source c) c.next j → OnOk r (GatesGoOn c d n m p j) × IfErr r (λ fault. fault ≡ Memory)
after_unstable c d n u m p r h g says cut j (inl x) = absurd (other_first (codes "unstable") (codes "since") (source c) c.next (λ e. absurd (omega (arith, e))) says x.2.1.1.0)
after_unstable c d n u m p r h g says cut j (inr (inr x)) = absurd (other_first (codes "unstable") (codes "deprecated") (source c) c.next (λ e. absurd (omega (arith, e))) says x.1.1.1.0)
after_unstable c d n u m p (Err x) h g says cut j (inr (inl y)) = (tt, ((h (none_there u y.1)).ends cut y.2.0 (tokens (codes "unstable") true (source c) c.next y.2.0 y.2.1)).memory)
after_unstable c d n u m p (Ok v) h g says cut j (inr (inl y)) =
    let at = ((h (none_there u y.1)).ends cut y.2.0 (tokens (codes "unstable") true (source c) c.next y.2.0 y.2.1)).ok in
    let left = subst (λ b. AreGatesLeft (source c) b true (has_gate p) y.2.0 j) (sym y.0) y.2.2 in
    (went c d (codes "unstable") true n m p y.2.0 j at y.2.1 (some_second (source c) (has_gate n) m g.0 (has_gate p) y.2.0 j g.1 left) (inl (none_there n y.0)), tt)

pub after_deprecated : (c d : Cursor) (n u p m : Option Gate) (r : Result ⊤ Fault) → (p ≡ None → Takes c d r false) → OnOk r ((g : Gate) × (m ≡ Some g)) → SaysWord (source c) c.next (codes "deprecated") → (n ≡ None) ⊎ (u ≡ None)
    → IsReadable (source c) → (j : ℕ) → GateNext (has_gate n) (has_gate u) (has_gate p) (source c) c.next j → OnOk r (GatesGoOn c d n u m j) × IfErr r (λ fault. fault ≡ Memory)
after_deprecated c d n u p m r h g says only cut j (inl x) = absurd (other_first (codes "deprecated") (codes "since") (source c) c.next (λ e. absurd (omega (arith, e))) says x.2.1.1.0)
after_deprecated c d n u p m r h g says only cut j (inr (inl x)) = absurd (other_first (codes "deprecated") (codes "unstable") (source c) c.next (λ e. absurd (omega (arith, e))) says x.2.1.1.0)
after_deprecated c d n u p m (Err x) h g says only cut j (inr (inr y)) = (tt, ((h (none_there p y.0)).ends cut y.1.0 (tokens (codes "deprecated") false (source c) c.next y.1.0 y.1.1)).memory)
after_deprecated c d n u p m (Ok v) h g says only cut j (inr (inr y)) =
    let at = ((h (none_there p y.0)).ends cut y.1.0 (tokens (codes "deprecated") false (source c) c.next y.1.0 y.1.1)).ok in
    (went c d (codes "deprecated") false n u m y.1.0 j at y.1.1 (some_third (source c) (has_gate n) (has_gate u) m g.0 y.1.0 j g.1 y.1.2) only, tt)

-- none of them comes next
pub no_next : (s : Source) (i : ℕ) (text : Text) (n u p : Bool) (j : ℕ) → ((v : Text) → SaysWord s i v → text ≡ v) → text ≢ codes "since" → text ≢ codes "unstable" → text ≢ codes "deprecated" → GateNext n u p s i j → ⊥
no_next s i text n u p j is a b c (inl x) = a (is (codes "since") x.2.1.1.0)
no_next s i text n u p j is a b c (inr (inl x)) = b (is (codes "unstable") x.2.1.1.0)
no_next s i text n u p j is a b c (inr (inr x)) = c (is (codes "deprecated") x.1.1.1.0)

-- ---- all of them

-- those up to where the cursor stands are read, at one token or more in each turn
pub record AreReadTo (a c : Cursor) (g : Gates) (turn j : ℕ) : Type 0 where
  pub same : c ≡ record a { next = c.next }
  pub turns : turn + a.next ≤ c.next
  pub left : AreGatesLeft (source a) (has_gate g.since) (has_gate g.unstable) (has_gate g.deprecated) c.next j

pub at_first : (c : Cursor) (g : Gates) (j : ℕ) → g.since ≡ None → g.unstable ≡ None → g.deprecated ≡ None → NotBefore At (AnyOf IsGates) (source c) c.next j → AreReadTo c c g 0 j
at_first c g j a b d p =
    let gates : Gates = p.0.0 in
    let left : AreGatesLeft (source c) false false false c.next j = turned (source c) gates.since gates.unstable gates.deprecated c.next j j p.0.1.2 p.0.1.0 end in
    let one = subst (λ o. AreGatesLeft (source c) (has_gate o) false false c.next j) (sym a) left in
    let two = subst (λ o. AreGatesLeft (source c) (has_gate g.since) (has_gate o) false c.next j) (sym b) one in
    record { same = refl; turns = omega arith; left = subst (λ o. AreGatesLeft (source c) (has_gate g.since) (has_gate g.unstable) (has_gate o) c.next j) (sym d) two }

-- behind the `@` of the next
pub record IsBehindAt (a b d : Cursor) (g : Gates) (j : ℕ) : Type 0 where
  pub same : d ≡ record a { next = d.next }
  pub further : b.next < d.next
  pub next : GateNext (has_gate g.since) (has_gate g.unstable) (has_gate g.deprecated) (source a) d.next j

pub behind_at : (a b d : Cursor) (g : Gates) (turn j : ℕ) (eaten : Bool) → AreReadTo a b g turn j → IsReadable (source a) → (token_at (source a) j).kind ≢ At → (token_at (source b) b.next).kind ≡ At → Eats b d eaten (IsKind At) → IsBehindAt a b d g j
behind_at a b d g turn j eaten r cut ends at eats = by (left_at (source a) _ _ _ b.next j r.left)
  where
    one : source b ≡ source a
    one = ap source r.same

    by : (j ≡ b.next) ⊎ (IsKind At ▸ GateNext (has_gate g.since) (has_gate g.unstable) (has_gate g.deprecated)) (source a) b.next j → IsBehindAt a b d g j
    by (inl e) = absurd (ends (subst (λ k. (token_at (source a) k).kind ≡ At) (sym e) (subst (λ (s : Source). (token_at s b.next).kind ≡ At) one at)))
    by (inr h) =
        let took : d ≡ record b { next = h.0 } = (eats (subst IsReadable (sym one) cut) h.0 (subst (λ (s : Source). IsKind At s b.next h.0) (sym one) h.1)).1 in
        let place : d.next ≡ h.0 = ap (λ (x : Cursor). x.next) took in
        let from : record b { next = h.0 } ≡ record a { next = h.0 } = ap (λ (x : Cursor). record x { next = h.0 }) r.same in
        let more : h.0 ≡ b.next + 1 = h.1.1 in
        record {
          same = took ∙ from ∙ ap (λ m. record a { next = m }) (sym place);
          further = omega (arith, place, more);
          next = subst (λ m. GateNext (has_gate g.since) (has_gate g.unstable) (has_gate g.deprecated) (source a) m j) (sym place) h.2;
        }

-- what is read of the next
pub one_read : (a b d e : Cursor) (g h : Gates) (j : ℕ) (r : Result ⊤ Fault) → IsReadable (source a) → AreExclusive g → IsBehindAt a b d g j → TakesGate d e g h r → OnOk r (GatesGoOn d e h.since h.unstable h.deprecated j) × IfErr r (λ fault. fault ≡ Memory)
one_read a b d e g h j r cut only at takes =
    let one : source d ≡ source a = ap source at.same in
    takes only (subst IsReadable (sym one) cut) j (subst (λ (s : Source). GateNext (has_gate g.since) (has_gate g.unstable) (has_gate g.deprecated) s d.next j) (sym one) at.next)

pub read_further : (a b d e f : Cursor) (g h : Gates) (turn j : ℕ) → AreReadTo a b g turn j → IsBehindAt a b d g j → GatesGoOn d e h.since h.unstable h.deprecated j → f ≡ e → AreReadTo a f h (turn + 1) j
read_further a b d e f g h turn j r at on stays =
    let one : source d ≡ source a = ap source at.same in
    let all : AreReadTo a e h (turn + 1) j = record {
      same = on.same ∙ ap (λ (x : Cursor). record x { next = e.next }) at.same;
      turns = omega (arith, r.turns, at.further, on.further);
      left = subst (λ (s : Source). AreGatesLeft s (has_gate h.since) (has_gate h.unstable) (has_gate h.deprecated) e.next j) one on.left;
    } in
    subst (λ (x : Cursor). AreReadTo a x h (turn + 1) j) (sym stays) all

-- none is left where no `@` stands
pub all_read : (a b : Cursor) (g : Gates) (turn j : ℕ) → AreReadTo a b g turn j → ((token_at (source b) b.next).kind ≡ At → ⊥) → b ≡ record a { next = j }
all_read a b g turn j r no_at = by (left_at (source a) _ _ _ b.next j r.left)
  where
    by : (j ≡ b.next) ⊎ (IsKind At ▸ GateNext (has_gate g.since) (has_gate g.unstable) (has_gate g.deprecated)) (source a) b.next j → b ≡ record a { next = j }
    by (inl e) = r.same ∙ ap (λ m. record a { next = m }) (sym e)
    by (inr h) = absurd (no_at (subst (λ (s : Source). (token_at s b.next).kind ≡ At) (sym (ap source r.same)) h.1.0))

-- behind the last of the tokens stands none
pub none_past : (s : Source) (i : ℕ) → length s.tokens ≤ i → (token_at s i).kind ≡ At → ⊥
none_past s i past at =
    let none = slice_get_past s.tokens i past in
    let kind : (token_at s i).kind ≡ End = ap (λ (t : Option Token). (unwrap_or t (record { kind = End; span = record { start = length s.text; end = length s.text }; docs = None })).kind) none in
    let f : End ≡ At = sym kind ∙ at in cc
