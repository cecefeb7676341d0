-- The members so far stand behind what opens the list, with a comma behind each; the rest is left.
use Rattle.std.proofs.Common.{◌≢◌, ℕ}
use Rattle.wac_wit_syntax.specs.Cursors.{Reads}
use Rattle.wac_wit_syntax.specs.Productions.{◌▸◌, IsKind}
use Rattle.wac_wit_syntax.specs.declared.token.TokenKind.TheVariants.{End}
use Rattle.wac_wit_syntax.proofs.Listing.{Terminated}
use Rattle.wac_wit_syntax.proofs.ListsLeft.{IsLeftTo, IsListAhead, ListLeft}
use Rattle.wac_wit_syntax.proofs.lists.read_list.Given as goal

abbrev pub invariant-loop-turn : goal.invariant-loop-turn
invariant-loop-turn g l = record {
  reads : l.form.open ≢ End → Reads l.fn.cursor l.cursor (IsKind l.form.open ▸ Terminated (g.T.Member.member l.form.needs_alias) l.members.items);
  whole : (j : ℕ) → IsListAhead (g.T.Member.member l.form.needs_alias) l.form.open l.form.close l.fn.cursor j → IsLeftTo (ListLeft (g.T.Member.member l.form.needs_alias) l.form.close) l.fn.cursor l.cursor l._turn j;
}
