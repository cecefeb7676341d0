use Rattle.wac_wit_refusals_sites.proofs.Walks.{among_at}
use Rattle.wac_wit_refusals_worlds.proofs.includes.lacks_some.Goals as goal

pub returns-then-branch : goal.returns-then-branch
returns-then-branch c is of knows = record {
  renamed = c.rename-item.result;
  among = among_at c.args.renames.now c.loop-rename.rename-index c.rename-item.result c.loop-rename-test.true c.rename-item.is;
  lacks = c.in_ok-lacks_name.ensures c.if-branch.true of knows;
}
