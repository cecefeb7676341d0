use Rattle.wac_core.specs.Content.{module_content, core_module_of}
use Rattle.wac_merge.proofs.BoundLemmas.{valid_bound}
use Rattle.wac_merge.proofs.DoneLemmas.{module_done}
use Rattle.wac_merge.proofs.MadeLemmas.{built_of, module_run}
use Rattle.wac_merge.proofs.MemoLemmas.{IsDone, IsTrueMemo-refused, Grows-same, Grows-noted}
use Rattle.wac_merge.proofs.NotedLemmas.{module_refused}
use Rattle.wac_merge.specs.declared.memo.BoundPair.TheVariants.{Modules}
use Rattle.wac_merge.proofs.modules.bound_modules.Goals as goal

pub module_of-requires : goal.module_of-requires
module_of-requires c = valid_bound c.args.bound (module_content c.index.result.now) (module_content c.index-2.result.now) (module_content c.in-Some.ty) (rw c.in-Some.is at c.in_ok-ty.ensures.bound)

pub returns-in_err-module_of-in-Some-clause-grows : goal.returns-in_err-module_of-in-Some-clause-grows
returns-in_err-module_of-in-Some-clause-grows c =
    Grows-same c.args.types.now c.module_of.new.types c.args.memo.now c.module_of.new.memo c.requires.memo c.in_err-module_of-in-Some.ensures.err c.in_err-module_of-in-Some.ensures.err_memo

pub returns-in_err-refuse-in-None-clause-grows : goal.returns-in_err-refuse-in-None-clause-grows
returns-in_err-refuse-in-None-clause-grows c =
    Grows-noted c.args.types.now c.args.memo.now c.refuse.new.self (c.in_err-refuse-in-None.ensures.made) (IsTrueMemo-refused c.args.types.now c.args.memo.now c.refuse.new.self _ (module_refused c.args.bound c.args.types.now c.args.x c.args.y (module_content c.index.result.now) (module_content c.index-2.result.now) c.index.ensures.tree c.index-2.ensures.tree c.requires.left c.requires.right (rw c.in-None.is at c.in_ok-ty.ensures.bound)) c.in_err-refuse-in-None.ensures.made c.in_err-refuse-in-None.ensures.refused c.in_err-refuse-in-None.ensures.compared c.requires.memo)

pub returns-in_ok-refuse-in-None-clause-grows : goal.returns-in_ok-refuse-in-None-clause-grows
returns-in_ok-refuse-in-None-clause-grows c =
    Grows-noted c.args.types.now c.args.memo.now c.refuse.new.self (c.in_ok-refuse-in-None.ensures.made) (IsTrueMemo-refused c.args.types.now c.args.memo.now c.refuse.new.self _ (module_refused c.args.bound c.args.types.now c.args.x c.args.y (module_content c.index.result.now) (module_content c.index-2.result.now) c.index.ensures.tree c.index-2.ensures.tree c.requires.left c.requires.right (rw c.in-None.is at c.in_ok-ty.ensures.bound)) c.in_ok-refuse-in-None.ensures.made c.in_ok-refuse-in-None.ensures.refused c.in_ok-refuse-in-None.ensures.compared c.requires.memo)

is_done : (c : goal.In_ok-module_of-in-Some) → IsDone c.args.bound (Modules c.args.x c.args.y) c.args.types.now c.args.memo.now c.module_of.new.types c.module_of.new.memo c.in_ok-module_of-in-Some.field-0
is_done c =
    module_done c.args.bound c.args.types.now c.module_of.new.types c.args.memo.now c.module_of.new.memo c.in_ok-module_of-in-Some.field-0 c.requires.memo c.in_ok-module_of-in-Some.ensures.grows c.args.x c.args.y c.requires.left c.requires.right
    (module_content c.index.result.now) (module_content c.index-2.result.now) (module_content c.in-Some.ty) c.index.ensures.tree c.index-2.ensures.tree (rw c.in-Some.is at c.in_ok-ty.ensures.bound) c.in_ok-module_of-in-Some.ensures.made

pub returns-in_ok-module_of-in-Some-clause-grows : goal.returns-in_ok-module_of-in-Some-clause-grows
returns-in_ok-module_of-in-Some-clause-grows c = (is_done c).grows

pub returns-in_ok-module_of-in-Some-clause-built : goal.returns-in_ok-module_of-in-Some-clause-built
returns-in_ok-module_of-in-Some-clause-built c =
    module_run c.args.bound c.args.types.now c.module_of.new.types c.args.memo.now c.module_of.new.memo c.in_ok-module_of-in-Some.field-0 c.in_ok-module_of-in-Some.ensures.grows c.args.x c.args.y (core_module_of c.index.result.now) (core_module_of c.index-2.result.now) (module_content c.in-Some.ty)
    c.index.ensures.entry c.index-2.ensures.entry
    (built_of (module_content c.index.result.now) (module_content c.index-2.result.now) (module_content c.in-Some.ty) c.index.ensures.valid c.index-2.ensures.valid (valid_bound c.args.bound (module_content c.index.result.now) (module_content c.index-2.result.now) (module_content c.in-Some.ty) (rw c.in-Some.is at c.in_ok-ty.ensures.bound)) (rw c.in-Some.is at c.in_ok-ty.ensures.built))
    c.in_ok-module_of-in-Some.ensures.made (is_done c).bound
