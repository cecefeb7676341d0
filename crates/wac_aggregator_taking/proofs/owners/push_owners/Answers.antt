use Rattle.std.proofs.Common.{None, inl, map, refl}
use Rattle.wac_component.specs.Key.{resource_key}
use Rattle.wac_component.proofs.PartLemmas.{map_at}
use Rattle.wac_component.proofs.Search.{among_at}
use Rattle.wac_aggregator_taking.specs.declared.steps.TakeStep.TheVariants.{Owner}
use Rattle.wac_aggregator_taking.proofs.StepLemmas.{put_one, put_then}
use Rattle.wac_aggregator_taking.proofs.owners.push_owners.Goals as goal

pub loop-i-preserved : goal.loop-i-preserved
loop-i-preserved c =
    let rs = c.args.resources.now.items in
    let ks = map resource_key rs in
    let r = c.resource_at-id.result in
    put_then ks None c.args.steps.now.items c.loop-i.steps.items c.push_step.new.steps.items c.loop-i.invariant
    (put_one ks None c.loop-i.steps.items c.push_step.new.steps.items (Owner r) c.in_ok-push_step.ensures (record { among = among_at ks _ (resource_key r) (map_at resource_key rs _ r c.resource_at-id.ensures); by = inl refl }))
