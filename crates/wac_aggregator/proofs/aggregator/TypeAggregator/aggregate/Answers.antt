use Rattle.std.proofs.Common.{ap, ◌∙◌}
use Rattle.wac_checker.specs.Cache.{without_number}
use Rattle.wac_checker.specs.Checker.{remembered}
use Rattle.wac_aggregator_promises.specs.Call.{Call}
use Rattle.wac_aggregator_errors.proofs.Passing.{error_passed_on}
use Rattle.wac_aggregator.specs.Content.{AggregatorContent}
use Rattle.wac_aggregator.specs.HandedIn.{call_of}
use Rattle.wac_aggregator.proofs.Advancing.{by_track}
use Rattle.wac_aggregator.proofs.Handing.{call_may, call_in_order, call_number, call_step, call_truly, call_imports, call_held, call_due, call_owners, call_plain, call_reason, call_refused}
use Rattle.wac_aggregator.proofs.aggregator.TypeAggregator.aggregate.Goals as goal

pub advance-requires-clause-state : goal.advance-requires-clause-state
advance-requires-clause-state c =
    let call : Call = call_of c.args.name.now c.args.types.now c.args.kind in
    call_may call c.self.inside.state c.direction-state.result c.args.self c.self.view_is c.self.invariant c.requires.apart c.requires.remembered

pub returns-in_err-advance-clause-forgotten : goal.returns-in_err-advance-clause-forgotten
returns-in_err-advance-clause-forgotten c = c.forget.ensures.remembered ∙ ap (λ n. without_number n (remembered c.args.checker.now)) (c.number.ensures ∙ ap (λ (s : AggregatorContent). s.types.number) c.self.view_is)

pub invariant_of-result : goal.invariant_of-result
invariant_of-result c =
    let call : Call = call_of c.args.name.now c.args.types.now c.args.kind in
    call_in_order call c.self.inside.state c.direction-state.result c.args.self c.self.view_is c.self.invariant c.requires.apart c.requires.remembered c.advance.new.state c.filed.ensures c.in_ok-advance.ensures.advances c.sound.ensures c.requires.source

pub returns-clause-step : goal.returns-clause-step
returns-clause-step c =
    let call : Call = call_of c.args.name.now c.args.types.now c.args.kind in
    call_step call c.self.inside.state c.direction-state.result c.args.self c.self.view_is c.self.invariant c.requires.apart c.requires.remembered c.advance.new.state c.filed.ensures c.in_ok-advance.ensures.advances

pub returns-clause-by_track : goal.returns-clause-by_track
returns-clause-by_track c = by_track c.advance.new.state c.filed.ensures

pub returns-clause-truly : goal.returns-clause-truly
returns-clause-truly c =
    let call : Call = call_of c.args.name.now c.args.types.now c.args.kind in
    call_truly call c.self.inside.state c.direction-state.result c.args.self c.self.view_is c.self.invariant c.requires.apart c.requires.remembered c.advance.new.state c.filed.ensures c.in_ok-advance.ensures.advances

pub returns-clause-imports : goal.returns-clause-imports
returns-clause-imports c =
    let call : Call = call_of c.args.name.now c.args.types.now c.args.kind in
    call_imports call c.self.inside.state c.direction-state.result c.args.self c.self.view_is c.self.invariant c.requires.apart c.requires.remembered c.advance.new.state c.filed.ensures c.in_ok-advance.ensures.advances

pub returns-clause-held : goal.returns-clause-held
returns-clause-held c =
    let call : Call = call_of c.args.name.now c.args.types.now c.args.kind in
    call_held call c.self.inside.state c.direction-state.result c.args.self c.self.view_is c.self.invariant c.requires.apart c.requires.remembered c.advance.new.state c.filed.ensures c.in_ok-advance.ensures.advances

pub returns-clause-due : goal.returns-clause-due
returns-clause-due c =
    let call : Call = call_of c.args.name.now c.args.types.now c.args.kind in
    call_due call c.self.inside.state c.direction-state.result c.args.self c.self.view_is c.self.invariant c.requires.apart c.requires.remembered c.advance.new.state c.filed.ensures c.in_ok-advance.ensures.advances c.requires.source

pub returns-clause-owners : goal.returns-clause-owners
returns-clause-owners c =
    let call : Call = call_of c.args.name.now c.args.types.now c.args.kind in
    call_owners call c.self.inside.state c.direction-state.result c.args.self c.self.view_is c.self.invariant c.requires.apart c.requires.remembered c.advance.new.state c.filed.ensures c.in_ok-advance.ensures.advances

pub returns-clause-number : goal.returns-clause-number
returns-clause-number c =
    let call : Call = call_of c.args.name.now c.args.types.now c.args.kind in
    call_number call c.self.inside.state c.direction-state.result c.args.self c.self.view_is c.self.invariant c.requires.apart c.requires.remembered c.advance.new.state c.filed.ensures c.in_ok-advance.ensures.advances

pub returns-clause-plain : goal.returns-clause-plain
returns-clause-plain c =
    let call : Call = call_of c.args.name.now c.args.types.now c.args.kind in
    call_plain call c.self.inside.state c.direction-state.result c.args.self c.self.view_is c.self.invariant c.requires.apart c.requires.remembered c.advance.new.state c.filed.ensures c.in_ok-advance.ensures.advances

pub returns-in_err-advance-clause-plain_refusal : goal.returns-in_err-advance-clause-plain_refusal
returns-in_err-advance-clause-plain_refusal c =
    let call : Call = call_of c.args.name.now c.args.types.now c.args.kind in
    error_passed_on c.from_residual.result _ c.in_err-advance.field-0.0 c.from_residual.ensures (call_refused call c.self.inside.state c.direction-state.result c.args.self c.self.view_is c.self.invariant c.requires.apart c.requires.remembered c.in_err-advance.field-0.0 c.in_err-advance.ensures.advances)

pub returns-in_err-advance-clause-reason : goal.returns-in_err-advance-clause-reason
returns-in_err-advance-clause-reason c =
    let call : Call = call_of c.args.name.now c.args.types.now c.args.kind in
    error_passed_on c.from_residual.result _ c.in_err-advance.field-0.0 c.from_residual.ensures (call_reason call c.self.inside.state c.direction-state.result c.args.self c.self.view_is c.self.invariant c.requires.apart c.requires.remembered c.in_err-advance.field-0.0 c.sound.ensures c.requires.source c.in_err-advance.ensures.advances)
