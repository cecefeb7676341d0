use Rattle.std.proofs.Common.{subst}
use Rattle.std.proofs.lemmas.Map.Iter.{iter_end}
use Rattle.std.specs.List.{AllZip}
use Rattle.std.specs.Map.Iter.{deref_pair}
use Rattle.wac_wit_changes.specs.Comparing.{IsComparedWorld}
use Rattle.wac_wit_changes.proofs.Items.{items_more}
use Rattle.wac_wit_changes.proofs.packages.compared_worlds.Goals as goal

pub loop-name-preserved : goal.loop-name-preserved
loop-name-preserved c = λ p own.
    items_more (IsComparedWorld c.args.pair.now.types.now c.args.new.now p) c.loop-name.yielded c.loop-name.items.items c.push.new.self.items c.in-Some.name c.in-Some.id _
    (c.loop-name.invariant p own) (c.in_ok-compared_world.ensures p (λ same. c.component_of-component.ensures (own same))) c.in_ok-push.ensures.items

pub returns : goal.returns
returns c = λ p own.
    let all = iter_end deref_pair c.args.of.now.old.now.worlds.entries c.loop-name.yielded _ _ _ _ c.into_iter-name-iterator.ensures.into_iter_gives.0 c.loop-name.yielded_by c.in-None.is c.next.ensures.steps in
    subst (λ es. AllZip (IsComparedWorld c.args.pair.now.types.now c.args.new.now p) es c.loop-name.items.items) all.0 (c.loop-name.invariant p own)
