use Rattle.std.proofs.Common.{refl}
use Rattle.std.proofs.lemmas.Option.{slice_get_read}
use Rattle.wac_wit_refusals.proofs.given_twice.is_given_elsewhere.Goals as goal

pub returns-then-gives : goal.returns-then-gives
returns-then-gives c is = record {
  other = c.loop-index.index;
  elsewhere = c.if-index-but.true;
  item = c.index-items-index.result;
  at = slice_get_read c.args.items.now _ c.loop-index.index c.index-items-index.result refl c.loop-index-test.true c.index-items-index.is;
  gives = c.if-gives.ensures is;
}
