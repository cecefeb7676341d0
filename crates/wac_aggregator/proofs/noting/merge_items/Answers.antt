use Rattle.std.proofs.Common.{inl, inr, subst}
use Rattle.wac_component.specs.Key.{item_keys}
use Rattle.wac_component.proofs.Extended.{AllStand-Extends}
use Rattle.wac_aggregator_taking.specs.Growing.{IsMetIfAny}
use Rattle.wac_aggregator_taking.proofs.MergeReasons.{apart_before}
use Rattle.wac_aggregator_errors.proofs.Saying.{says_mismatch}
use Rattle.wac_aggregator_errors.proofs.Passing.{passed_on}
use Rattle.wac_aggregator.proofs.Members.{met_itself}
use Rattle.wac_aggregator.proofs.noting.merge_items.Goals as goal

pub returns-in-Some-clause-met : goal.returns-in-Some-clause-met
returns-in-Some-clause-met c = subst (IsMetIfAny c.args.state.now.types c.meet_own.new.types c.args.existing c.args.own) c.in-Some.is c.in_ok-met.ensures

pub mismatch-requires : goal.mismatch-requires
mismatch-requires c =
    let was = c.args.state.now.types in
    let now = c.meet_own.new.types in
    let none = subst (IsMetIfAny was now c.args.existing c.args.own) c.in-None.is c.in_ok-met.ensures in
    record {
      existing = AllStand-Extends was now none.0 (item_keys c.args.existing) c.requires.existing;
      new = AllStand-Extends was now none.0 (item_keys c.args.own) c.requires.own;
      apart = none.1;
    }

pub returns-in_ok-mismatch-in-None-clause-met : goal.returns-in_ok-mismatch-in-None-clause-met
returns-in_ok-mismatch-in-None-clause-met c = λ ne.
    let was = c.args.state.now.types in
    let now = c.meet_own.new.types in
    let none = subst (IsMetIfAny was now c.args.existing c.args.own) c.in-None.is c.in_ok-met.ensures in
    inr (record {
      no_bound = apart_before was now c.args.existing c.args.own none.0 c.requires.existing c.requires.own none.1;
      says = says_mismatch _ _ _ _ _ c.in_ok-mismatch-in-None.ensures.mismatch;
    })

pub returns-in_err-check_uses_of-clause-met : goal.returns-in_err-check_uses_of-clause-met
returns-in_err-check_uses_of-clause-met c = passed_on c.from_residual.result _ _ c.in_err-check_uses_of.field-0.0 c.from_residual.ensures (λ ne. inl (c.in_err-check_uses_of.ensures ne))

pub returns-then-is_one_instance-clause-met : goal.returns-then-is_one_instance-clause-met
returns-then-is_one_instance-clause-met c = met_itself c.args.state.now.types c.args.existing c.args.own c.sound.ensures c.requires.existing (c.is_one_instance.ensures.only c.if-is_one_instance.true)
