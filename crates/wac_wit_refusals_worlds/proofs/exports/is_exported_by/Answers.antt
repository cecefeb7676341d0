use Rattle.wac_wit_refusals_sites.proofs.Walks.{among_at}
use Rattle.wac_wit_refusals_worlds.proofs.exports.is_exported_by.Goals as goal

pub returns-then-branch : goal.returns-then-branch
returns-then-branch c = λ is of judges placed. record {
  item = c.item-item.result;
  among = among_at c.args.world.now.items.now c.loop-item.item-index c.item-item.result c.loop-item-test.true c.item-item.is;
  says = c.in_ok-says.ensures c.if-branch.true of judges placed;
}
