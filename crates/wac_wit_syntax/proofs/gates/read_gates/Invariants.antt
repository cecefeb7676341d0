-- The attributes so far.
use Rattle.std.proofs.Common.{◌≡◌, ◌≢◌, ℕ}
use Rattle.wac_wit_syntax.specs.Behind.{HasNoGate}
use Rattle.wac_wit_syntax.specs.Completing.{AnyOf, IsReadable, NotBefore}
use Rattle.wac_wit_syntax.specs.Cursors.{Reads, source}
use Rattle.wac_wit_syntax.specs.Gates.{AreExclusive, AreGates, IsGates}
use Rattle.wac_wit_syntax.specs.Productions.{token_at}
use Rattle.wac_wit_syntax.specs.declared.token.TokenKind.TheVariants.{At}
use Rattle.wac_wit_syntax.proofs.GatesLeft.{AreReadTo}
use Rattle.wac_wit_syntax.proofs.gates.read_gates.Given as goal

abbrev pub invariant-loop-turn : goal.invariant-loop-turn
invariant-loop-turn l = record {
  reads : Reads l.fn.cursor l.cursor (λ s i j. AreGates s l.gates.since l.gates.unstable l.gates.deprecated i j);
  docs : l.gates.docs ≡ (token_at (source l.fn.cursor) l.fn.cursor.next).docs;
  exclusive : AreExclusive l.gates;
  none : (token_at (source l.fn.cursor) l.fn.cursor.next).kind ≢ At → HasNoGate l.gates × (l.cursor ≡ l.fn.cursor);
  whole : IsReadable (source l.fn.cursor) → (j : ℕ) → NotBefore At (AnyOf IsGates) (source l.fn.cursor) l.fn.cursor.next j → AreReadTo l.fn.cursor l.cursor l.gates l._turn j;
}
