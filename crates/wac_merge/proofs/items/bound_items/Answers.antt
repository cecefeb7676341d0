use Rattle.std.proofs.Common.{◌++◌, ◌∙◌, subst, IfSome}
use Rattle.wac_component.specs.Key.{item_keys}
use Rattle.wac_component.specs.Tree.{item_tree}
use Rattle.wac_merge.specs.Bounded.{AreIncomparable}
use Rattle.wac_merge.specs.Built.{IsBuilt}
use Rattle.wac_merge.specs.Memo.{Made, sort_kind}
use Rattle.wac_merge.specs.Runs.{FromBuilt}
use Rattle.wac_merge.proofs.BoundLemmas.{bound_of_ordered, bound_exchanged, none_bound}
use Rattle.wac_merge.proofs.ItemLemmas.{told_bound, told_built, built_of_two, built_of_two_exchanged}
use Rattle.wac_merge.proofs.items.bound_items.Goals as goal

pub returns-then-branch-clause-bound : goal.returns-then-branch-clause-bound
returns-then-branch-clause-bound c = rw c.of_two.ensures (bound_of_ordered c.args.bound c.args.types.now c.args.a c.args.b (c.in_ok-fits.ensures.answer.0 c.if-branch.true))

pub returns-then-branch-clause-built : goal.returns-then-branch-clause-built
returns-then-branch-clause-built c = λ b o sound stand only made. rw c.of_two.ensures (built_of_two c.args.bound b c.args.types.now o c.args.a c.args.b)

pub returns-then-branch-2-clause-bound : goal.returns-then-branch-2-clause-bound
returns-then-branch-2-clause-bound c =
    rw c.of_two-then-branch-2.ensures (bound_exchanged c.args.bound c.args.types.now c.args.types.now c.args.a c.args.b _ (bound_of_ordered c.args.bound c.args.types.now c.args.b c.args.a (c.in_ok-fits-2.ensures.answer.0 c.if-branch-2.true)))

pub returns-then-branch-2-clause-built : goal.returns-then-branch-2-clause-built
returns-then-branch-2-clause-built c = λ b o sound stand only made. rw c.of_two-then-branch-2.ensures (built_of_two_exchanged c.args.bound b c.args.types.now o c.args.a c.args.b)

pub returns-in_default-clause-bound : goal.returns-in_default-clause-bound
returns-in_default-clause-bound c =
    none_bound c.args.bound c.args.types.now c.args.a c.args.b (λ h. absurd (cc (c.in_ok-fits.ensures.answer.1 h, c.if-branch.false))) (c.pair_of.ensures.unlike c.in_default.is c.args.types.now)

pub returns-in-Some-told_of-clause-bound : goal.returns-in-Some-told_of-clause-bound
returns-in-Some-told_of-clause-bound c =
    told_bound c.args.a c.args.b (sort_kind c.in-Some.is_type) c.in-Some.pair c.in-Some.ensures.alike.0 c.in-Some.ensures.alike.1 c.args.bound c.args.types.now c.fits-2.new.memo c.in-Some-told_of.entry c.item_of.result
    c.in_ok-fits-2.ensures.memo (rw c.in-Some-told_of.is at c.told_of.ensures) c.item_of.ensures

pub returns-in-Some-told_of-clause-built : goal.returns-in-Some-told_of-clause-built
returns-in-Some-told_of-clause-built c =
    let apart : AreIncomparable (item_tree c.args.types.now c.args.a) (item_tree c.args.types.now c.args.b) = (λ h. absurd (cc (c.in_ok-fits.ensures.answer.1 h, c.if-branch.false)), λ h. absurd (cc (c.in_ok-fits-2.ensures.answer.1 h, c.if-branch-2.false))) in
    subst (λ (l : Made). FromBuilt (item_keys c.args.a ++ item_keys c.args.b) c.args.types.now l (λ b o. IfSome c.item_of.result (IsBuilt b c.args.types.now o c.args.a c.args.b))) (c.in_ok-fits-2.ensures.made ∙ c.in_ok-fits.ensures.made)
    (told_built c.args.a c.args.b (sort_kind c.in-Some.is_type) c.in-Some.pair c.in-Some.ensures.alike.0 c.in-Some.ensures.alike.1 c.args.bound c.args.types.now c.fits-2.new.memo c.in-Some-told_of.entry c.item_of.result
    (rw c.in-Some-told_of.is at c.told_of.ensures) c.item_of.ensures apart)
