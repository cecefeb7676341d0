use Rattle.std.proofs.Common.{refl}
use Rattle.std.proofs.lemmas.Option.{slice_get_read}
use Rattle.wac_wit_refusals_worlds.proofs.said_twice.is_said_twice_by.Goals as goal

pub returns-then-branch : goal.returns-then-branch
returns-then-branch c is of knows = record {
  index = c.loop-index.index;
  item = c.index-items-index.result;
  at = slice_get_read c.args.items.now _ c.loop-index.index c.index-items-index.result refl c.loop-index-test.true c.index-items-index.is;
  exports = c.in-Some.said.is_export;
  path = c.in-Some.said.path.now;
  says = c.in-Some.ensures of knows;
  stands = c.if-is_at.ensures refl;
  again = c.in_ok-is_said_again.ensures c.if-branch.true of knows;
}
