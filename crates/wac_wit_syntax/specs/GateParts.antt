-- What the reader of attributes has yet to read. The grammar is told apart from this (`Gates`).
use Rattle.std.specs.Prelude.{◌≡◌, ◌⊎◌, ℕ, ◌<◌, ⊤, Bool, true, false, codes, Option, Some, None, Result, IfErr, OnOk}
use Rattle.wac_model.specs.Text.{Text}
use Rattle.wac_wit_syntax.specs.Completing.{AnyOf, IsReadable}
use Rattle.wac_wit_syntax.specs.Cursors.{source}
use Rattle.wac_wit_syntax.specs.Gates.{AreExclusive, IsGateField}
use Rattle.wac_wit_syntax.specs.Productions.{◌▸◌, IsKind, IsWord, Production, Source}
use Rattle.wac_wit_syntax.specs.declared.cursor.Cursor.{Cursor}
use Rattle.wac_wit_syntax.specs.declared.error.Fault.{Fault}
use Rattle.wac_wit_syntax.specs.declared.error.Fault.TheVariants.{Memory}
use Rattle.wac_wit_syntax.specs.declared.token.TokenKind.TheVariants.{At, CloseParen, OpenParen}
use Rattle.wac_wit_syntax.specs.declared.tree.Gate.{Gate}
use Rattle.wac_wit_syntax.specs.declared.tree.Gates.{Gates}

abbrev pub has_gate : Option Gate → Bool
has_gate None = false
has_gate (Some gate) = true

-- an attribute behind its `@`
abbrev pub IsGateRest : Text → Bool → Production
IsGateRest word is_feature = IsWord word ▸ IsKind OpenParen ▸ AnyOf (IsGateField is_feature) ▸ IsKind CloseParen

-- the attributes that are left, where it is told which have been there: `@since`, `@unstable`, `@deprecated`
pub data AreGatesLeft (s : Source) : Bool → Bool → Bool → ℕ → ℕ → Type 0 where
  end : {n u d : Bool} {i : ℕ} → AreGatesLeft s n u d i i
  since : {d : Bool} {i k m j : ℕ} → IsKind At s i k → IsGateRest (codes "since") false s k m → AreGatesLeft s true false d m j → AreGatesLeft s false false d i j
  unstable : {d : Bool} {i k m j : ℕ} → IsKind At s i k → IsGateRest (codes "unstable") true s k m → AreGatesLeft s false true d m j → AreGatesLeft s false false d i j
  deprecated : {n u : Bool} {i k m j : ℕ} → IsKind At s i k → IsGateRest (codes "deprecated") false s k m → AreGatesLeft s n u true m j → AreGatesLeft s n u false i j

abbrev pub Left : Bool → Bool → Bool → Production
Left n u d = λ s i j. AreGatesLeft s n u d i j

-- the same behind the `@` of the next of them
abbrev pub GateNext : Bool → Bool → Bool → Production
GateNext n u d = λ s i j.
    ((n ≡ false) × (u ≡ false) × (IsGateRest (codes "since") false ▸ Left true false d) s i j)
    ⊎ (((n ≡ false) × (u ≡ false) × (IsGateRest (codes "unstable") true ▸ Left false true d) s i j)
    ⊎ ((d ≡ false) × (IsGateRest (codes "deprecated") false ▸ Left n u true) s i j))

-- the cursor goes on to where the rest of them are left
pub record GatesGoOn (c d : Cursor) (n u p : Option Gate) (j : ℕ) : Type 0 where
  pub same : d ≡ record c { next = d.next }
  pub further : c.next < d.next
  pub left : AreGatesLeft (source c) (has_gate n) (has_gate u) (has_gate p) d.next j
  pub exclusive : (n ≡ None) ⊎ (u ≡ None)

-- the next of them is read, or memory runs out
abbrev pub TakesGate : Cursor → Cursor → Gates → Gates → Result ⊤ Fault → Type 0
TakesGate c d before after r =
    AreExclusive before → IsReadable (source c) → (j : ℕ) → GateNext (has_gate before.since) (has_gate before.unstable) (has_gate before.deprecated) (source c) c.next j
    → OnOk r (GatesGoOn c d after.since after.unstable after.deprecated j) × IfErr r (λ fault. fault ≡ Memory)
