use Rattle.indexmap.specs.IndexMap.{get_by_text}
use Rattle.wac_wit_validation_names.specs.WorldOnce.{GivesAt}
use Rattle.wac_wit_validation_names.proofs.AmbiguityFacts.{EachBelow-end, EachBelow-more, EachBelow-none, KeepsNoted-none, KeepsNoted-then}
use Rattle.wac_wit_validation_names.proofs.GivenFacts.{GivesAt-kept}
use Rattle.wac_wit_validation_names.proofs.worlds_once.give_items.Goals as goal

pub loop-item-init : goal.loop-item-init
loop-item-init c = record {
  grows = KeepsNoted-none (get_by_text c.args.given.now);
  gives = λ of on. EachBelow-none c.args.items.now (GivesAt of (get_by_text c.args.given.now) c.args.kind c.args.names.now c.args.layer);
}

pub loop-item-preserved : goal.loop-item-preserved
loop-item-preserved c =
    let first = get_by_text c.args.given.now in
    let before = get_by_text c.loop-item.given in
    let after = get_by_text c.give_item.new.given in
    let k = c.args.kind in
    let names = c.args.names.now in
    let keeps = c.in_ok-give_item.ensures.grows c.if-not-branch.false in
    record {
      grows = KeepsNoted-then first before after c.loop-item.invariant.grows keeps;
      gives = λ of on. EachBelow-more c.args.items.now (GivesAt of before k names c.args.layer) (GivesAt of after k names c.args.layer) c.loop-item.item c.index-items-item.result c.loop-item-test.true c.index-items-item.is
          (GivesAt-kept before after keeps of k names c.args.layer) (c.in_ok-give_item.ensures.gives c.if-not-branch.false of on) (c.loop-item.invariant.gives of on);
    }

pub returns-clause-grows : goal.returns-clause-grows
returns-clause-grows c = λ is. c.loop-item.invariant.grows

pub returns-clause-gives : goal.returns-clause-gives
returns-clause-gives c = λ is of on. EachBelow-end c.args.items.now (GivesAt of (get_by_text c.loop-item.given) c.args.kind c.args.names.now c.args.layer) c.loop-item.item c.loop-item-test.false (c.loop-item.invariant.gives of on)
