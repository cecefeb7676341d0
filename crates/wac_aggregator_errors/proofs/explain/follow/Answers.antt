use Rattle.wac_component.specs.Key.{Stands, item_keys}
use Rattle.wac_component.proofs.Extended.{Extends-refl, Extends-trans}
use Rattle.wac_component.proofs.Keys.{Each-append}
use Rattle.wac_aggregator_errors.proofs.Ways.{no_way, still_none, way_kept, way_on}
use Rattle.wac_aggregator_errors.proofs.explain.follow.Goals as goal

pub loop-turn-init : goal.loop-turn-init
loop-turn-init c = record {
  way = no_way c.args.own.now c.args.existing c.args.new c.args.frames.now.items c.requires.existing c.requires.new c.requires.apart;
  known = c.requires.known;
  stood = Each-append (Stands c.args.own.now) (item_keys c.args.existing) (item_keys c.args.new) c.requires.existing c.requires.new;
  grows = Extends-refl c.args.own.now;
}

pub clash_below-requires-clause-existing : goal.clash_below-requires-clause-existing
clash_below-requires-clause-existing c = c.loop-turn.invariant.way.first_stands

pub clash_below-requires-clause-new : goal.clash_below-requires-clause-new
clash_below-requires-clause-new c = c.loop-turn.invariant.way.second_stands

pub clash_below-requires-clause-known : goal.clash_below-requires-clause-known
clash_below-requires-clause-known c = (c.args.own.now, c.requires.sound, c.loop-turn.invariant.stood, c.loop-turn.invariant.known)

pub returns-in_err-clash-clause-grows : goal.returns-in_err-clash-clause-grows
returns-in_err-clash-clause-grows c = Extends-trans c.args.own.now c.loop-turn.own c.clash_below.new.own c.loop-turn.invariant.grows c.clash_below.ensures.grows

pub returns-in_default-clause-way : goal.returns-in_default-clause-way
returns-in_default-clause-way c =
    way_kept c.args.own.now c.loop-turn.own c.clash_below.new.own (c.args.existing, c.args.new) c.args.frames.now.items c.loop-turn.frames.items c.loop-turn.at.existing c.loop-turn.at.new c.clash_below.ensures.grows c.loop-turn.invariant.way

pub returns-in_default-clause-innermost : goal.returns-in_default-clause-innermost
returns-in_default-clause-innermost c =
    still_none c.loop-turn.own c.clash_below.new.own c.clash_below.ensures.grows c.loop-turn.at.existing c.loop-turn.at.new c.loop-turn.invariant.way.first_stands c.loop-turn.invariant.way.second_stands _ c.in_default.is c.in_ok-clash.ensures.clash

pub returns-in_default-clause-grows : goal.returns-in_default-clause-grows
returns-in_default-clause-grows c = Extends-trans c.args.own.now c.loop-turn.own c.clash_below.new.own c.loop-turn.invariant.grows c.clash_below.ensures.grows

pub returns-in_err-push-clause-grows : goal.returns-in_err-push-clause-grows
returns-in_err-push-clause-grows c = Extends-trans c.args.own.now c.loop-turn.own c.clash_below.new.own c.loop-turn.invariant.grows c.clash_below.ensures.grows

pub loop-turn-preserved : goal.loop-turn-preserved
loop-turn-preserved c = record {
  way = rw c.in_ok-push.ensures.items (way_on c.args.own.now c.loop-turn.own c.clash_below.new.own (c.args.existing, c.args.new) c.args.frames.now.items c.loop-turn.frames.items c.loop-turn.at.existing c.loop-turn.at.new c.loop-turn.invariant.way c.clash_below.ensures.grows _ c.in-Some.clash c.in-Some.is c.in_ok-clash.ensures.clash);
  known = c.clash_below.ensures.known c.args.own.now c.requires.sound c.loop-turn.invariant.stood c.loop-turn.invariant.known;
  stood = (rw c.in-Some.is at c.in_ok-clash.ensures.stood) c.args.own.now c.requires.sound c.loop-turn.invariant.grows c.loop-turn.invariant.stood;
  grows = Extends-trans c.args.own.now c.loop-turn.own c.clash_below.new.own c.loop-turn.invariant.grows c.clash_below.ensures.grows;
}

pub returns-clause-grows : goal.returns-clause-grows
returns-clause-grows c = c.loop-turn.invariant.grows
