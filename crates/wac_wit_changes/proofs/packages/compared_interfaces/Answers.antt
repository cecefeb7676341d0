use Rattle.std.proofs.Common.{subst}
use Rattle.std.proofs.lemmas.Map.Iter.{iter_end}
use Rattle.std.specs.List.{AllZip}
use Rattle.std.specs.Map.Iter.{deref_pair}
use Rattle.wac_wit_changes.specs.Comparing.{IsComparedInterface}
use Rattle.wac_wit_changes.proofs.Items.{items_more}
use Rattle.wac_wit_changes.proofs.packages.compared_interfaces.Goals as goal

pub loop-name-preserved : goal.loop-name-preserved
loop-name-preserved c =
    items_more (IsComparedInterface c.args.pair.now.types.now c.args.new.now) c.loop-name.yielded c.loop-name.items.items c.push.new.self.items c.in-Some.name c.in-Some.id _
    c.loop-name.invariant c.in_ok-compared_interface.ensures c.in_ok-push.ensures.items

pub returns : goal.returns
returns c =
    let all = iter_end deref_pair c.args.old.now.interfaces.entries c.loop-name.yielded _ _ _ _ c.into_iter-name-iterator.ensures.into_iter_gives.0 c.loop-name.yielded_by c.in-None.is c.next.ensures.steps in
    subst (λ es. AllZip (IsComparedInterface c.args.pair.now.types.now c.args.new.now) es c.loop-name.items.items) all.0 c.loop-name.invariant
