use Rattle.std.proofs.Common.{arith}
use Rattle.wac_wit_scopes.proofs.ScopeFacts.{All-end, All-next}
use Rattle.indexmap.specs.IndexMap.{get_by_text}
use Rattle.wac_wit_refusals_worlds.proofs.NeededFacts.{KeepsListed-more, KeepsListed-same, item_kept}
use Rattle.wac_wit_refusals_worlds.specs.NeededSteps.{IsExportListed}
use Rattle.wac_wit_scopes.specs.Scopes.{scope_syntax}
use Rattle.wac_wit_syntax.specs.declared.tree.WorldItem.{WorldItem}
use Rattle.wac_wit_refusals_worlds.proofs.exports.list_items.Goals as goal

pub loop-item-init : goal.loop-item-init
loop-item-init c = record {
  keeps = KeepsListed-same (get_by_text c.args.listed.now);
  lists = λ of judges k d h. absurd (omega (arith, h));
}

pub loop-item-preserved : goal.loop-item-preserved
loop-item-preserved c =
    let scope = scope_syntax c.args.scope.now in
    let first = get_by_text c.args.listed.now in
    let before = get_by_text c.loop-item.listed in
    let after = get_by_text c.list_item.new.listed in
    record {
      keeps = KeepsListed-more first before after c.loop-item.invariant.keeps c.in_ok-list_item.ensures.keeps;
      lists = λ of judges.
          All-next c.args.items.now c.loop-item.item-index (λ (t : WorldItem). IsExportListed of scope before t) (λ (t : WorldItem). IsExportListed of scope after t) c.item-item.result
          c.loop-item-test.true c.item-item.is (item_kept of scope before after c.in_ok-list_item.ensures.keeps) (c.loop-item.invariant.lists of judges)
          (c.in_ok-list_item.ensures.lists c.if-not-branch.false of judges);
    }

pub returns-clause-keeps : goal.returns-clause-keeps
returns-clause-keeps c = λ is. c.loop-item.invariant.keeps

pub returns-clause-lists : goal.returns-clause-lists
returns-clause-lists c = λ is of judges. All-end c.args.items.now c.loop-item.item-index (λ (t : WorldItem). IsExportListed of (scope_syntax c.args.scope.now) (get_by_text c.loop-item.listed) t) c.loop-item-test.false (c.loop-item.invariant.lists of judges)
