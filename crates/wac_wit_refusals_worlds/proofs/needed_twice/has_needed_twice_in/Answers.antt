use Rattle.std.proofs.Common.{refl}
use Rattle.wac_wit_refusals_sites.proofs.Walks.{among_at}
use Rattle.wac_wit_refusals_worlds.proofs.needed_twice.has_needed_twice_in.Goals as goal

pub returns-then-branch : goal.returns-then-branch
returns-then-branch c is of knows = record {
  item = c.item-item.result;
  among = among_at c.args.world.now.items.now c.loop-item.item-index c.item-item.result c.loop-item-test.true c.item-item.is;
  is_at = c.if-gives_exports_at.ensures refl;
  gives = c.in_ok-gives_needed_twice.ensures c.if-branch.true of knows;
}
