use Rattle.wac_merge.specs.Items.{extern_list}
use Rattle.wac_merge.proofs.ExternLemmas.{all_met, all_stand, all_built}
use Rattle.wac_merge.proofs.OrderLemmas.{all_names_with}
use Rattle.wac_merge.proofs.externs.bound_externs.Goals as goal

pub returns-in_ok-add_others-in-Meet-clause-bound : goal.returns-in_ok-add_others-in-Meet-clause-bound
returns-in_ok-add_others-in-Meet-clause-bound c =
    rw c.in-Meet.is (all_met c.args.types.now c.args.types.now (extern_list c.args.first.now) (extern_list c.args.second.now) (extern_list c.in-Some.parts) (extern_list c.add_others.new.externs) (rw (c.in-Some.is, c.in-Meet.is) at c.in_ok-parts.ensures.bound) c.in_ok-add_others-in-Meet.ensures.added)

pub returns-in_ok-add_others-in-Meet-clause-names : goal.returns-in_ok-add_others-in-Meet-clause-names
returns-in_ok-add_others-in-Meet-clause-names c =
    rw c.in-Meet.is (all_names_with (extern_list c.args.first.now) (extern_list c.args.second.now) (extern_list c.in-Some.parts) (extern_list c.add_others.new.externs) c.in_ok-add_others-in-Meet.ensures.added (rw (c.in-Some.is, c.in-Meet.is) at c.in_ok-parts.ensures.names))

pub returns-in_ok-add_others-in-Meet-clause-standing : goal.returns-in_ok-add_others-in-Meet-clause-standing
returns-in_ok-add_others-in-Meet-clause-standing c =
    all_stand c.args.types.now (extern_list c.in-Some.parts) (extern_list c.args.second.now) (extern_list c.add_others.new.externs) c.in_ok-add_others-in-Meet.ensures.added (rw c.in-Some.is at c.in_ok-parts.ensures.standing) c.requires.right

pub returns-in_ok-add_others-in-Meet-clause-built : goal.returns-in_ok-add_others-in-Meet-clause-built
returns-in_ok-add_others-in-Meet-clause-built c = λ b o sound stand only made.
    all_built b c.args.types.now o (extern_list c.args.first.now) (extern_list c.args.second.now) (extern_list c.in-Some.parts) (extern_list c.add_others.new.externs) c.in_ok-add_others-in-Meet.ensures.added c.in_ok-add_others-in-Meet.ensures.found
    ((rw c.in-Some.is at c.in_ok-parts.ensures.built) b o sound stand only made)

pub returns-in-Join-clause-built : goal.returns-in-Join-clause-built
returns-in-Join-clause-built c = rw c.in-Some.is at c.in_ok-parts.ensures.built
