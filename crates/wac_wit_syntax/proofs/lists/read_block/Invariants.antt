-- The items so far stand behind the brace; the rest is left.
use Rattle.std.proofs.Common.{ℕ}
use Rattle.wac_wit_syntax.specs.Cursors.{Reads}
use Rattle.wac_wit_syntax.specs.Lists.{InOrder}
use Rattle.wac_wit_syntax.specs.Productions.{◌▸◌, IsKind}
use Rattle.wac_wit_syntax.specs.declared.token.TokenKind.TheVariants.{OpenBrace}
use Rattle.wac_wit_syntax.proofs.ListsLeft.{BlockLeft, IsBlockAhead, IsLeftTo}
use Rattle.wac_wit_syntax.proofs.lists.read_block.Given as goal

abbrev pub invariant-loop-turn : goal.invariant-loop-turn
invariant-loop-turn g l = record {
  reads : Reads l.fn.cursor l.cursor (IsKind OpenBrace ▸ InOrder g.T.Item.item l.items.items);
  whole : (j : ℕ) → IsBlockAhead g.T.Item.item l.fn.cursor j → IsLeftTo (BlockLeft g.T.Item.item) l.fn.cursor l.cursor l._turn j;
}
