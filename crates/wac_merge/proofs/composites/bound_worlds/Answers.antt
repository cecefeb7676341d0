use Rattle.std.proofs.Common.{◌∙◌}
use Rattle.wac_merge.proofs.MemoLemmas.{IsTrueMemo-refused, Grows-same, Grows-noted, Grows-after}
use Rattle.wac_merge.proofs.NotedLemmas.{world_grows, world_runs, world_refused}
use Rattle.wac_merge.proofs.composites.bound_worlds.Goals as goal

pub returns-in_err-world_of-in-Some-clause-grows : goal.returns-in_err-world_of-in-Some-clause-grows
returns-in_err-world_of-in-Some-clause-grows c =
    Grows-after c.args.types.now c.world_of.new.types c.args.memo.now c.sides_of_both.new.memo c.world_of.new.memo c.in_ok-sides.ensures.made (Grows-same c.args.types.now c.world_of.new.types c.sides_of_both.new.memo c.world_of.new.memo c.in_ok-sides.ensures.memo c.in_err-world_of-in-Some.ensures.err c.in_err-world_of-in-Some.ensures.err_memo)

pub returns-in_err-refuse-in-None-clause-grows : goal.returns-in_err-refuse-in-None-clause-grows
returns-in_err-refuse-in-None-clause-grows c =
    Grows-noted c.args.types.now c.args.memo.now c.refuse.new.self (c.in_err-refuse-in-None.ensures.made ∙ c.in_ok-sides.ensures.made) (IsTrueMemo-refused c.args.types.now c.sides_of_both.new.memo c.refuse.new.self _ (world_refused c.args.bound c.args.types.now c.args.x c.args.y c.sound.ensures c.requires.left c.requires.right (rw c.in-None.is at c.in_ok-sides.ensures.bound)) c.in_err-refuse-in-None.ensures.made c.in_err-refuse-in-None.ensures.refused c.in_err-refuse-in-None.ensures.compared c.in_ok-sides.ensures.memo)

pub returns-in_ok-refuse-in-None-clause-grows : goal.returns-in_ok-refuse-in-None-clause-grows
returns-in_ok-refuse-in-None-clause-grows c =
    Grows-noted c.args.types.now c.args.memo.now c.refuse.new.self (c.in_ok-refuse-in-None.ensures.made ∙ c.in_ok-sides.ensures.made) (IsTrueMemo-refused c.args.types.now c.sides_of_both.new.memo c.refuse.new.self _ (world_refused c.args.bound c.args.types.now c.args.x c.args.y c.sound.ensures c.requires.left c.requires.right (rw c.in-None.is at c.in_ok-sides.ensures.bound)) c.in_ok-refuse-in-None.ensures.made c.in_ok-refuse-in-None.ensures.refused c.in_ok-refuse-in-None.ensures.compared c.in_ok-sides.ensures.memo)

pub returns-in_ok-world_of-in-Some-clause-grows : goal.returns-in_ok-world_of-in-Some-clause-grows
returns-in_ok-world_of-in-Some-clause-grows c =
    world_grows c.args.types.now c.world_of.new.types c.args.memo.now c.sides_of_both.new.memo c.world_of.new.memo c.args.bound c.in_ok-world_of-in-Some.field-0 c.in_ok-sides.ensures.made c.in_ok-sides.ensures.memo c.in_ok-world_of-in-Some.ensures.grows c.sound.ensures c.args.x c.args.y c.requires.left c.requires.right c.in-Some.sides c.in_ok-world_of-in-Some.ensures.made (rw c.in-Some.is at c.in_ok-sides.ensures.bound)

pub returns-in_ok-world_of-in-Some-clause-built : goal.returns-in_ok-world_of-in-Some-clause-built
returns-in_ok-world_of-in-Some-clause-built c =
    world_runs c.args.types.now c.world_of.new.types c.args.memo.now c.sides_of_both.new.memo c.world_of.new.memo c.args.bound c.in_ok-world_of-in-Some.field-0 c.in_ok-sides.ensures.made c.in_ok-sides.ensures.memo c.in_ok-world_of-in-Some.ensures.grows c.sound.ensures c.args.x c.args.y c.requires.left c.requires.right c.in-Some.sides c.in_ok-world_of-in-Some.ensures.made (rw c.in-Some.is at c.in_ok-sides.ensures.bound) (rw c.in-Some.is at c.in_ok-sides.ensures.built)
