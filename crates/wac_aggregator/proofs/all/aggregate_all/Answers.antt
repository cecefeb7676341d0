use Rattle.std.proofs.Common.{◌≡◌, ◌∙◌, Some, ap, sym, subst, add-one, arith, take}
use Rattle.std.proofs.lemmas.List.{drop_all, length-map, take_all}
use Rattle.std.proofs.lemmas.List.Elements.{All-contains, All-nil}
use Rattle.wac_component.specs.Collection.{Collection}
use Rattle.wac_aggregator_promises.specs.Aggregated.{track_imports}
use Rattle.wac_aggregator_promises.specs.Answer.{accepted, refused}
use Rattle.wac_aggregator_promises.specs.Call.{Call, IsSoundCall, AreSoundCalls}
use Rattle.wac_aggregator_promises.specs.Holding.{HoldsReached}
use Rattle.wac_aggregator_promises.specs.PlainList.{IsPlain}
use Rattle.wac_aggregator_promises.proofs.PlainRuns.{plain_runs_answer}
use Rattle.wac_aggregator.specs.After.{HasReasonAfter}
use Rattle.wac_aggregator.specs.Content.{shown, content_of}
use Rattle.wac_aggregator.proofs.Remembering.{truly_in, owners_in}
use Rattle.wac_aggregator.proofs.Plain.{run_starts, run_on, run_stops, run_ends, plain_step, plain_refusal}
use Rattle.wac_aggregator_imports.specs.Import.{ImportsContent, import_of}
use Rattle.wac_aggregator.specs.HandedIn.{called, handed_in}
use Rattle.wac_aggregator.specs.Served.{AreCallsServed}
use Rattle.wac_aggregator.proofs.Advancing.{by_track}
use Rattle.wac_aggregator.proofs.Beginning.{none_held}
use Rattle.wac_aggregator.proofs.Front.{none_served, all_aggregated}
use Rattle.wac_aggregator.proofs.Held.{reached_after}
use Rattle.wac_aggregator.proofs.Handing.{refused_reason}
use Rattle.wac_aggregator.proofs.Listing.{Contains-at, take-next, called_at, may_try, advances_in_order, advances_number, may_take, one_more}
use Rattle.wac_aggregator.specs.Wit.{IsWitAfter}
use Rattle.wac_aggregator.proofs.Wit.{wit_start}
use Rattle.wac_aggregator.proofs.WitRuns.{one_more_sound, one_more_wit, wit_accepted, one_refused}
use Rattle.wac_aggregator.proofs.all.aggregate_all.Goals as goal

pub loop-at-init : goal.loop-at-init
loop-at-init c =
    let start = c.no_imports-state.ensures in
    record {
      order = start.in_order;
      number = ap (λ (t : Collection). t.number) start.empty;
      runs = λ p. run_starts (handed_in c.args.calls.now) c.no_imports-state.result start.imports;
      served = none_served (handed_in c.args.calls.now) c.no_imports-state.result start.taken start.copies (λ q. ap (λ (is : ImportsContent). import_of is q) start.imports) start.shared;
      held = none_held c.no_imports-state.result c.args.number start;
      sound = All-nil IsSoundCall;
      wit = λ w. wit_start (handed_in c.args.calls.now) c.no_imports-state.result c.args.number start;
    }

pub advance-requires-clause-source : goal.advance-requires-clause-source
advance-requires-clause-source c =
    let at = called_at c.args.calls.now c.loop-at.at c.index-calls-at.result c.loop-at-test.true c.index-calls-at.is in
    c.requires.source (called c.index-calls-at.result) (Contains-at (handed_in c.args.calls.now) c.loop-at.at (called c.index-calls-at.result) at)

pub advance-requires-clause-state : goal.advance-requires-clause-state
advance-requires-clause-state c =
    let calls = handed_in c.args.calls.now in
    let call = called c.index-calls-at.result in
    let at = called_at c.args.calls.now c.loop-at.at c.index-calls-at.result c.loop-at-test.true c.index-calls-at.is in
    may_take calls c.args.number c.requires.one c.requires.apart (take c.loop-at.at calls) call c.loop-at.state (Contains-at calls c.loop-at.at call at) c.loop-at.invariant.number c.loop-at.invariant.order c.loop-at.invariant.served

pub loop-at-preserved : goal.loop-at-preserved
loop-at-preserved c =
    let calls = handed_in c.args.calls.now in
    let call = called c.index-calls-at.result in
    let at = called_at c.args.calls.now c.loop-at.at c.index-calls-at.result c.loop-at-test.true c.index-calls-at.is in
    let among = Contains-at calls c.loop-at.at call at in
    let before = c.loop-at.invariant in
    let may = may_take calls c.args.number c.requires.one c.requires.apart (take c.loop-at.at calls) call c.loop-at.state among before.number before.order before.served in
    record {
      order = advances_in_order call c.loop-at.state c.advance.new.state may (may_try call c.loop-at.state c.sound.ensures (c.requires.source call among) before.order) before.order.identified before.order.imports c.filed.ensures c.in_default.ensures.advances;
      number = advances_number call c.loop-at.state c.advance.new.state may before.order.imports c.filed.ensures c.in_default.ensures.advances ∙ before.number;
      runs = λ p. rw add-one (run_on calls c.loop-at.at call at (track_imports (shown (content_of c.loop-at.state))) (track_imports (shown (content_of c.advance.new.state))) (plain_step call c.loop-at.state c.advance.new.state may before.order.imports c.filed.ensures c.in_default.ensures.advances (All-contains (λ (d : Call). IsPlain d.types d.kind) calls call p among)) (before.runs p));
      served = rw add-one (one_more calls c.args.number c.requires.one c.requires.apart c.loop-at.at call c.loop-at.state c.advance.new.state at (c.requires.source call among) c.filed.ensures before.number before.order before.served c.in_default.ensures.advances);
      held = rw add-one (subst (λ front. HoldsReached front c.advance.new.state.types) (sym (take-next calls c.loop-at.at call at)) (reached_after call c.loop-at.state c.advance.new.state may before.order.imports c.filed.ensures c.in_default.ensures.advances (take c.loop-at.at calls) before.order.held before.order.identified before.held));
      sound = rw add-one (one_more_sound calls c.loop-at.at call at before.sound (record { sound = c.sound.ensures; stands = c.requires.source call among }));
      wit = λ w. rw add-one (one_more_wit calls c.loop-at.at call at w c.loop-at.state c.advance.new.state (λ d m. c.requires.one call d among m) may (record { sound = c.sound.ensures; stands = c.requires.source call among }) before.order.imports c.filed.ensures before.served c.in_default.ensures.advances c.in_default.ensures.members (before.wit w));
    }

pub returns-clause-aggregated : goal.returns-clause-aggregated
returns-clause-aggregated c =
    let calls = handed_in c.args.calls.now in
    all_aggregated calls calls c.loop-at.state c.loop-at.invariant.order.imports
    (subst (λ front. AreCallsServed calls front c.loop-at.state) (take_all c.loop-at.at calls (simp length-map (omega arith))) c.loop-at.invariant.served)

pub returns-clause-by_track : goal.returns-clause-by_track
returns-clause-by_track c = by_track c.loop-at.state c.loop-at.invariant.order.imports

pub returns-clause-owners : goal.returns-clause-owners
returns-clause-owners c = λ g one. owners_in g c.loop-at.state (c.loop-at.invariant.served.owners g one)

pub returns-clause-truly : goal.returns-clause-truly
returns-clause-truly c = λ g one. truly_in g c.loop-at.state (c.loop-at.invariant.served.truly g one)

pub returns-in-Err-clause-plain : goal.returns-in-Err-clause-plain
returns-in-Err-clause-plain c = λ p other.
    let calls = handed_in c.args.calls.now in
    let call = called c.index-calls-at.result in
    let at = called_at c.args.calls.now c.loop-at.at c.index-calls-at.result c.loop-at-test.true c.index-calls-at.is in
    let plain = All-contains (λ (d : Call). IsPlain d.types d.kind) calls call p (Contains-at calls c.loop-at.at call at) in
    plain_runs_answer calls (refused c.loop-at.at) p (run_stops calls c.loop-at.at call at (track_imports (shown (content_of c.loop-at.state))) (plain_refusal call c.loop-at.state c.loop-at.invariant.order.imports ((c.in-Err.ensures.advances other).plain plain)) (c.loop-at.invariant.runs p))

pub returns-clause-plain : goal.returns-clause-plain
returns-clause-plain c = λ p.
    let calls = handed_in c.args.calls.now in
    let is = track_imports (shown (content_of c.loop-at.state)) in
    plain_runs_answer calls (accepted is) p (run_ends calls c.loop-at.at is (drop_all c.loop-at.at calls (simp length-map (omega arith))) (c.loop-at.invariant.runs p))

pub returns-in-Err-clause-reason : goal.returns-in-Err-clause-reason
returns-in-Err-clause-reason c = λ d is.
    let calls = handed_in c.args.calls.now in
    let call = called c.index-calls-at.result in
    let at = called_at c.args.calls.now c.loop-at.at c.index-calls-at.result c.loop-at-test.true c.index-calls-at.is in
    let same : call ≡ d = let both : Some call ≡ Some d = sym at ∙ is in cc in
    let before = c.loop-at.invariant in
    subst (λ x. HasReasonAfter c.args.number (take c.loop-at.at calls) x c.in-Err.error) same record {
      before = shown (content_of c.loop-at.state);
      number_is = before.number;
      aggregated = all_aggregated calls (take c.loop-at.at calls) c.loop-at.state before.order.imports before.served;
      by_track = by_track c.loop-at.state before.order.imports;
      held = before.held;
      reason = refused_reason call c.loop-at.state before.order.imports (may_try call c.loop-at.state c.sound.ensures (c.requires.source call (Contains-at calls c.loop-at.at call at)) before.order) c.in-Err.error c.in-Err.ensures.advances;
    }

pub returns-clause-wit : goal.returns-clause-wit
returns-clause-wit c = λ w.
    let calls = handed_in c.args.calls.now in
    let whole = take_all c.loop-at.at calls (simp length-map (omega arith)) in
    wit_accepted calls c.loop-at.state w (subst AreSoundCalls whole c.loop-at.invariant.sound) c.loop-at.invariant.order.imports (subst (λ front. AreCallsServed calls front c.loop-at.state) whole c.loop-at.invariant.served) (subst (λ front. IsWitAfter calls front c.loop-at.state) whole (c.loop-at.invariant.wit w))

pub returns-in-Err-clause-wit : goal.returns-in-Err-clause-wit
returns-in-Err-clause-wit c = λ w ne.
    let calls = handed_in c.args.calls.now in
    let call = called c.index-calls-at.result in
    let at = called_at c.args.calls.now c.loop-at.at c.index-calls-at.result c.loop-at-test.true c.index-calls-at.is in
    let among = Contains-at calls c.loop-at.at call at in
    let before = c.loop-at.invariant in
    let sound = c.requires.source call among in
    one_refused calls c.loop-at.at call at w c.loop-at.state before.sound (record { sound = c.sound.ensures; stands = sound }) (λ d m. c.requires.one call d among m) before.order.imports before.served (before.wit w) c.in-Err.error ne
    ((c.in-Err.ensures.advances ne).reason (may_try call c.loop-at.state c.sound.ensures sound before.order)) (c.in-Err.ensures.advances ne).plain c.in-Err.ensures.members
