use Rattle.std.proofs.Common.{arith}
use Rattle.wac_component.specs.Content.{types_of}
use Rattle.wac_component.specs.Key.{item_keys}
use Rattle.wac_aggregator_memo.specs.Memo.{memo_of}
use Rattle.wac_aggregator_taking.proofs.PartHeights.{named_stands}
use Rattle.wac_aggregator_taking.proofs.Plain.{OnlyGrows-refl, OnlyGrows-trans}
use Rattle.wac_aggregator_taking.proofs.ReadyLemmas.{items_next, items_still, ready_next}
use Rattle.wac_aggregator_taking.proofs.TakeLemmas.{MayTake-Takes, Takes-none}
use Rattle.wac_aggregator_taking.proofs.ready.take_ready.Goals as goal

pub loop-i-init : goal.loop-i-init
loop-i-init c = record { takes = Takes-none c.args.types.now c.args.state.now _ _ (λ t. Unit {0}) c.requires.state tt; grows = OnlyGrows-refl c.args.types.now c.args.state.now; noted = λ i k after below at. absurd (omega arith) }

pub is_ready-requires-clause-source : goal.is_ready-requires-clause-source
is_ready-requires-clause-source c = named_stands item_keys (λ k. k) c.args.types.now c.args.externs.now.entries c.loop-i.i c.nth_extern.result c.nth_extern.ensures c.requires.source

pub is_ready-requires-clause-state : goal.is_ready-requires-clause-state
is_ready-requires-clause-state c = MayTake-Takes c.args.types.now c.args.state.now c.loop-i.state _ _ _ c.requires.state c.loop-i.invariant.takes

pub loop-i-preserved : goal.loop-i-preserved
loop-i-preserved c =
    let f = c.args.types.now in
    let a = c.args.state.now in
    let b = c.loop-i.state in
    let n = c.is_ready.new.state in
    record {
      takes = ready_next f a b n c.args.externs.now.entries c.loop-i.i c.nth_extern.result c.nth_extern.ensures c.requires.state c.loop-i.invariant.takes c.in_ok-is_ready.ensures.taken;
      grows = OnlyGrows-trans f a b n c.loop-i.invariant.grows c.in_ok-is_ready.ensures.grows;
      noted = items_next (memo_of b.taken) (memo_of n.taken) (types_of c.args.externs.now.entries) c.args.next c.loop-i.i c.nth_extern.result c.in_ok-is_ready.ensures.taken.run.taken c.loop-i.invariant.noted c.nth_extern.ensures (c.in_ok-is_ready.ensures.noted c.if-not-branch.false);
    }

pub returns-then-not-branch-clause-taken : goal.returns-then-not-branch-clause-taken
returns-then-not-branch-clause-taken c = ready_next c.args.types.now c.args.state.now c.loop-i.state c.is_ready.new.state c.args.externs.now.entries c.loop-i.i c.nth_extern.result c.nth_extern.ensures c.requires.state c.loop-i.invariant.takes c.in_ok-is_ready.ensures.taken

pub returns-then-not-branch-clause-grows : goal.returns-then-not-branch-clause-grows
returns-then-not-branch-clause-grows c = OnlyGrows-trans c.args.types.now c.args.state.now c.loop-i.state c.is_ready.new.state c.loop-i.invariant.grows c.in_ok-is_ready.ensures.grows

pub returns-clause-taken : goal.returns-clause-taken
returns-clause-taken c = c.loop-i.invariant.takes

pub returns-clause-grows : goal.returns-clause-grows
returns-clause-grows c = c.loop-i.invariant.grows

pub returns-then-not-branch-clause-noted : goal.returns-then-not-branch-clause-noted
returns-then-not-branch-clause-noted c = items_still (memo_of c.loop-i.state.taken) (memo_of c.is_ready.new.state.taken) c.in_ok-is_ready.ensures.taken.run.taken (types_of c.args.externs.now.entries) c.args.next c.loop-i.i c.loop-i.invariant.noted

pub returns-clause-noted : goal.returns-clause-noted
returns-clause-noted c = λ i k after below at. c.loop-i.invariant.noted i k after (omega arith) at
