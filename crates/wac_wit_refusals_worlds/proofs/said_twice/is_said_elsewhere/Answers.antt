use Rattle.std.proofs.Common.{refl}
use Rattle.std.proofs.lemmas.Option.{slice_get_read}
use Rattle.wac_wit_refusals_worlds.proofs.said_twice.is_said_elsewhere.Goals as goal

pub returns-then-branch : goal.returns-then-branch
returns-then-branch c is of knows placed = record {
  other = c.loop-index.index;
  elsewhere = c.if-index-but.true;
  item = c.index-items-index.result;
  at = slice_get_read c.args.items.now _ c.loop-index.index c.index-items-index.result refl c.loop-index-test.true c.index-items-index.is;
  says = c.in_ok-says.ensures c.if-branch.true of knows placed;
}
