-- Items of interfaces and worlds, piece by piece.
use Rattle.std.proofs.Common.{◌≡◌, ℕ, Option, None, sym, subst}
use Rattle.wac_wit_syntax.specs.Cursors.{Reads}
use Rattle.wac_wit_syntax.specs.Gates.{AreGates, IsGates}
use Rattle.wac_wit_syntax.specs.Productions.{◌▸◌, Nothing, Production, Source}
use Rattle.wac_wit_syntax.specs.declared.cursor.Cursor.{Cursor}
use Rattle.wac_wit_syntax.specs.declared.tree.Gate.{Gate}
use Rattle.wac_wit_syntax.specs.declared.tree.Gates.{Gates}
use Rattle.wac_wit_syntax.proofs.Covering.{reads_as, reads_then}
use Rattle.wac_wit_syntax.proofs.GateSteps.{no_tokens}

-- an item without attributes begins where they would
none_of : (s : Source) (i j : ℕ) (n u d : Option Gate) → n ≡ None → u ≡ None → d ≡ None → AreGates s n u d i j → j ≡ i
none_of s i j n u d a b c h = no_tokens s i j (subst (λ x. AreGates s None None x i j) c (subst (λ x. AreGates s None x d i j) b (subst (λ x. AreGates s x u d i j) a h)))

pub no_gates_read : (c d : Cursor) (g : Gates) → g.since ≡ None → g.unstable ≡ None → g.deprecated ≡ None → Reads c d (IsGates g) → Reads c d Nothing
no_gates_read c d g a b e h = reads_as h (λ s i j r. none_of s i j g.since g.unstable g.deprecated a b e r.0)

-- nothing stands behind
pub reads_on : {c d e : Cursor} {P : Production} → Reads c d P → Reads d e Nothing → Reads c e P
reads_on {c} {d} {e} {P} h g = reads_as (reads_then h g) (λ s i j r. subst (λ k. P s i k) (sym r.2) r.1)

-- a third behind two
pub reads_third : {a b c : Cursor} {P Q R : Production} → Reads a b (P ▸ Q) → Reads b c R → Reads a c (P ▸ Q ▸ R)
reads_third h g = reads_as (reads_then h g) (λ s i j r. (r.1.0, r.1.1, (r.0, r.1.2, r.2)))

-- behind what left the cursor as it was
pub reads_from : {a b c : Cursor} {P : Production} → b ≡ a → Reads b c P → Reads a c P
reads_from {a} {b} {c} {P} e h = subst (λ (x : Cursor). Reads x c P) e h

-- up to where the cursor is left as it is
pub reads_at : {a b c : Cursor} {P : Production} → c ≡ b → Reads a b P → Reads a c P
reads_at {a} {b} {c} {P} e h = subst (λ (x : Cursor). Reads a x P) (sym e) h
