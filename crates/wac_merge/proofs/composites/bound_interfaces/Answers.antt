use Rattle.std.proofs.Common.{◌∙◌}
use Rattle.wac_merge.specs.Items.{extern_list}
use Rattle.wac_merge.proofs.MemoLemmas.{IsTrueMemo-refused, Grows-same, Grows-noted, Grows-after}
use Rattle.wac_merge.proofs.NotedLemmas.{interface_grows, interface_runs, interface_refused}
use Rattle.wac_merge.proofs.composites.bound_interfaces.Goals as goal

pub returns-in_err-interface_of-in-Some-clause-grows : goal.returns-in_err-interface_of-in-Some-clause-grows
returns-in_err-interface_of-in-Some-clause-grows c =
    Grows-after c.args.types.now c.interface_of.new.types c.args.memo.now c.exports_of_both.new.memo c.interface_of.new.memo c.in_ok-exports.ensures.made (Grows-same c.args.types.now c.interface_of.new.types c.exports_of_both.new.memo c.interface_of.new.memo c.in_ok-exports.ensures.memo c.in_err-interface_of-in-Some.ensures.err c.in_err-interface_of-in-Some.ensures.err_memo)

pub returns-in_err-refuse-in-None-clause-grows : goal.returns-in_err-refuse-in-None-clause-grows
returns-in_err-refuse-in-None-clause-grows c =
    Grows-noted c.args.types.now c.args.memo.now c.refuse.new.self (c.in_err-refuse-in-None.ensures.made ∙ c.in_ok-exports.ensures.made) (IsTrueMemo-refused c.args.types.now c.exports_of_both.new.memo c.refuse.new.self _ (interface_refused c.args.bound c.args.types.now c.args.x c.args.y c.sound.ensures c.requires.left c.requires.right (rw c.in-None.is at c.in_ok-exports.ensures.bound)) c.in_err-refuse-in-None.ensures.made c.in_err-refuse-in-None.ensures.refused c.in_err-refuse-in-None.ensures.compared c.in_ok-exports.ensures.memo)

pub returns-in_ok-refuse-in-None-clause-grows : goal.returns-in_ok-refuse-in-None-clause-grows
returns-in_ok-refuse-in-None-clause-grows c =
    Grows-noted c.args.types.now c.args.memo.now c.refuse.new.self (c.in_ok-refuse-in-None.ensures.made ∙ c.in_ok-exports.ensures.made) (IsTrueMemo-refused c.args.types.now c.exports_of_both.new.memo c.refuse.new.self _ (interface_refused c.args.bound c.args.types.now c.args.x c.args.y c.sound.ensures c.requires.left c.requires.right (rw c.in-None.is at c.in_ok-exports.ensures.bound)) c.in_ok-refuse-in-None.ensures.made c.in_ok-refuse-in-None.ensures.refused c.in_ok-refuse-in-None.ensures.compared c.in_ok-exports.ensures.memo)

pub returns-in_ok-interface_of-in-Some-clause-grows : goal.returns-in_ok-interface_of-in-Some-clause-grows
returns-in_ok-interface_of-in-Some-clause-grows c =
    interface_grows c.args.types.now c.interface_of.new.types c.args.memo.now c.exports_of_both.new.memo c.interface_of.new.memo c.args.bound c.in_ok-interface_of-in-Some.field-0 c.in_ok-exports.ensures.made c.in_ok-exports.ensures.memo c.in_ok-interface_of-in-Some.ensures.grows c.sound.ensures c.args.x c.args.y c.requires.left c.requires.right (extern_list c.in-Some.exports) c.in_ok-interface_of-in-Some.ensures.made (rw c.in-Some.is at c.in_ok-exports.ensures.bound)

pub returns-in_ok-interface_of-in-Some-clause-built : goal.returns-in_ok-interface_of-in-Some-clause-built
returns-in_ok-interface_of-in-Some-clause-built c =
    interface_runs c.args.types.now c.interface_of.new.types c.args.memo.now c.exports_of_both.new.memo c.interface_of.new.memo c.args.bound c.in_ok-interface_of-in-Some.field-0 c.in_ok-exports.ensures.made c.in_ok-exports.ensures.memo c.in_ok-interface_of-in-Some.ensures.grows c.sound.ensures c.args.x c.args.y c.requires.left c.requires.right (extern_list c.in-Some.exports) c.in_ok-interface_of-in-Some.ensures.made (rw c.in-Some.is at c.in_ok-exports.ensures.bound)
    (rw c.in-Some.is at c.in_ok-exports.ensures.names) (rw c.in-Some.is at c.in_ok-exports.ensures.built)
