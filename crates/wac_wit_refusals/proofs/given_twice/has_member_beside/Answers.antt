use Rattle.std.proofs.Common.{refl}
use Rattle.std.proofs.lemmas.Option.{slice_get_read}
use Rattle.wac_wit_refusals.proofs.given_twice.has_member_beside.Goals as goal

pub returns-then-is_member : goal.returns-then-is_member
returns-then-is_member c is = record {
  other = c.loop-index.index;
  elsewhere = c.if-index-but.true;
  item = c.index-items-index.result;
  at = slice_get_read c.args.items.now _ c.loop-index.index c.index-items-index.result refl c.loop-index-test.true c.index-items-index.is;
  is = c.if-is_member.ensures is;
}
