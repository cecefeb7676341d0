use Rattle.std.proofs.Common.{arith}
use Rattle.indexmap.specs.IndexMap.{get_by_text}
use Rattle.wac_wit_scopes.proofs.ScopeFacts.{All-end, All-next}
use Rattle.wac_wit_scopes.specs.Scopes.{scope_syntax}
use Rattle.wac_wit_refusals_worlds.specs.NeededSteps.{ListsExports}
use Rattle.wac_wit_refusals_worlds.specs.declared.worlds.PlacedWorld.{PlacedWorld}
use Rattle.wac_wit_refusals_worlds.proofs.NeededFacts.{exports_kept}
use Rattle.wac_wit_refusals_worlds.proofs.exports.list_worlds.Goals as goal

pub loop-index-init : goal.loop-index-init
loop-index-init c = λ of judges k d h. absurd (omega (arith, h))

pub loop-index-preserved : goal.loop-index-preserved
loop-index-preserved c = λ of judges.
    let before = get_by_text c.loop-index.listed in
    let after = get_by_text c.list_items.new.listed in
    All-next c.args.worlds.now c.loop-index.index (λ (p : PlacedWorld). ListsExports of (scope_syntax p.scope) before p.items.now) (λ (p : PlacedWorld). ListsExports of (scope_syntax p.scope) after p.items.now)
    c.index-worlds-index.result c.loop-index-test.true c.index-worlds-index.is (λ p lists. exports_kept of (scope_syntax p.scope) p.items.now before after (c.in_ok-list_items.ensures.keeps c.if-not-branch.false) lists) (c.loop-index.invariant of judges)
    (c.in_ok-list_items.ensures.lists c.if-not-branch.false of judges)

pub returns : goal.returns
returns c = λ is of judges. All-end c.args.worlds.now c.loop-index.index (λ (p : PlacedWorld). ListsExports of (scope_syntax p.scope) (get_by_text c.loop-index.listed) p.items.now) c.loop-index-test.false (c.loop-index.invariant of judges)
