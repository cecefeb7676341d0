use Rattle.wac_merge.proofs.ItemLemmas.{bound_with_other}
use Rattle.wac_merge.proofs.items.bound_with.Goals as goal

pub returns-in-Some-clause-bound : goal.returns-in-Some-clause-bound
returns-in-Some-clause-bound c = bound_with_other c.args.bound c.args.types.now c.args.a c.in-Some.b c.args.b c.in-Some.is c.bound_items.result c.bound_items.ensures.bound
