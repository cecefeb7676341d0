use Rattle.std.proofs.Common.{refl}
use Rattle.std.proofs.lemmas.Option.{slice_get_read}
use Rattle.wac_wit_refusals.proofs.given_twice.is_twice_in.Goals as goal

pub returns-then-is_elsewhere : goal.returns-then-is_elsewhere
returns-then-is_elsewhere c is of knows = record {
  index = c.loop-index.index;
  item = c.item-item.result;
  at = slice_get_read c.args.scope.now.items.now _ c.loop-index.index c.item-item.result refl c.loop-index-test.true c.item-item.is;
  ident = c.in-Some.name.now;
  is = c.in-Some.ensures.0;
  stands = c.in-Some.ensures.1;
  twice = c.if-is_elsewhere.ensures is of knows;
}
