use Rattle.wac_wit_refusals_sites.proofs.Walks.{among_at}
use Rattle.wac_wit_refusals_worlds.proofs.includes.has_unknown_rename_in.Goals as goal

pub returns-then-branch : goal.returns-then-branch
returns-then-branch c is of knows = record {
  item = c.item-item.result;
  among = among_at c.args.items.now c.loop-item.item-index c.item-item.result c.loop-item-test.true c.item-item.is;
  renames = c.in_ok-renames_unknown_at.ensures c.if-branch.true of knows;
}
