-- The file so far, and what is left of it.
use Rattle.std.proofs.Common.{ℕ}
use Rattle.wac_wit_syntax.specs.Completing.{AnyOf, Before, IsReadable}
use Rattle.wac_wit_syntax.specs.Cursors.{Reads, source}
use Rattle.wac_wit_syntax.specs.Documents.{IsDocument}
use Rattle.wac_wit_syntax.specs.declared.token.TokenKind.TheVariants.{End}
use Rattle.wac_wit_syntax.proofs.FilesLeft.{IsDocTo}
use Rattle.wac_wit_syntax.proofs.documents.read_document.Given as goal

abbrev pub invariant-loop-turn : goal.invariant-loop-turn
invariant-loop-turn l = record {
  reads : Reads l.fn.cursor l.cursor (IsDocument l.document);
  whole : IsReadable (source l.fn.cursor) → (j : ℕ) → Before End (AnyOf IsDocument) (source l.fn.cursor) l.fn.cursor.next j → IsDocTo l.fn.cursor l.cursor l.document l._turn j;
}
