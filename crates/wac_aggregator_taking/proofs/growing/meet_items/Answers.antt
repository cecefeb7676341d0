use Rattle.std.proofs.Common.{inl, inr, subst}
use Rattle.wac_component.specs.Key.{item_keys}
use Rattle.wac_component.proofs.Extended.{AllStand-Extends}
use Rattle.wac_aggregator_taking.specs.Growing.{IsMetIfAny}
use Rattle.wac_aggregator_taking.proofs.MergeReasons.{apart_before}
use Rattle.wac_aggregator_errors.proofs.Saying.{says_mismatch}
use Rattle.wac_aggregator_errors.proofs.Passing.{passed_on}
use Rattle.wac_aggregator_taking.proofs.growing.meet_items.Goals as goal

pub returns-in-Some : goal.returns-in-Some
returns-in-Some c = subst (IsMetIfAny c.args.types.now c.meet_own.new.types c.args.existing c.args.kind) c.in-Some.is c.in_ok-met.ensures

pub mismatch-requires : goal.mismatch-requires
mismatch-requires c =
    let none = subst (IsMetIfAny c.args.types.now c.meet_own.new.types c.args.existing c.args.kind) c.in-None.is c.in_ok-met.ensures in
    record {
      existing = AllStand-Extends c.args.types.now c.meet_own.new.types none.0 (item_keys c.args.existing) c.requires.existing;
      new = AllStand-Extends c.args.types.now c.meet_own.new.types none.0 (item_keys c.args.kind) c.requires.new;
      apart = none.1;
    }

pub returns-in_ok-mismatch-in-None : goal.returns-in_ok-mismatch-in-None
returns-in_ok-mismatch-in-None c = λ ne.
    let none = subst (IsMetIfAny c.args.types.now c.meet_own.new.types c.args.existing c.args.kind) c.in-None.is c.in_ok-met.ensures in
    inr (record {
      no_bound = apart_before c.args.types.now c.meet_own.new.types c.args.existing c.args.kind none.0 c.requires.existing c.requires.new none.1;
      says = says_mismatch _ _ _ _ _ c.in_ok-mismatch-in-None.ensures.mismatch;
    })

pub returns-in_err-check_uses_of : goal.returns-in_err-check_uses_of
returns-in_err-check_uses_of c = passed_on c.from_residual.result _ _ c.in_err-check_uses_of.field-0.0 c.from_residual.ensures (λ ne. inl (c.in_err-check_uses_of.ensures ne))
