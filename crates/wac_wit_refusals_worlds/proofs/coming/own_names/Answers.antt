use Rattle.wac_wit_refusals_worlds.specs.Brought.{by_own_item}
use Rattle.wac_wit_refusals_worlds.specs.BroughtSteps.{IsComing}
use Rattle.wac_wit_refusals_sites.proofs.TypeFacts.{among_from, kept_push, none_among}
use Rattle.wac_wit_refusals_worlds.proofs.coming.own_names.Goals as goal

pub loop-taken-init : goal.loop-taken-init
loop-taken-init c of knows w = none_among (IsComing of c.args.exports w c.args.items.now) c.new-names.result.items c.new-names.ensures.items

pub loop-taken-preserved : goal.loop-taken-preserved
loop-taken-preserved c of knows w =
    let taken = c.taken-item.result in
    let among = among_from c.in_ok-side_names.field-0.items c.deref-taken-items.result.now c.loop-taken.taken-index taken c.deref-taken-items.ensures.value c.loop-taken-test.true c.taken-item.is in
    kept_push (IsComing of c.args.exports w c.args.items.now) c.loop-taken.names.items c.push.new.self.items _ c.in_ok-push.ensures.items (c.loop-taken.invariant of knows w)
    (by_own_item taken.part taken.name.now (c.in_ok-side_names.ensures of knows taken among))

pub returns : goal.returns
returns c of knows w = c.loop-taken.invariant of knows w
