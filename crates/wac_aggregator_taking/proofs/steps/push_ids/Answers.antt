use Rattle.std.proofs.Common.{◌-◌, ◌<◌, length, map, subst, sym, arith}
use Rattle.wac_component.specs.Naming.{key_of}
use Rattle.wac_component.specs.Reach.{IsAmong}
use Rattle.wac_component.proofs.PartLemmas.{map_at}
use Rattle.wac_component.proofs.Search.{among_at}
use Rattle.wac_aggregator_taking.proofs.StepAnswers.{read_at}
use Rattle.wac_aggregator_taking.proofs.StepLemmas.{put_one, put_then}
use Rattle.wac_aggregator_taking.proofs.steps.push_ids.Goals as goal

pub loop-i-preserved : goal.loop-i-preserved
loop-i-preserved c =
    let ids = c.args.ids.now in
    let ks = map key_of ids in
    let j = length ids - 1 - c.loop-i.i in
    let id = c.index-ids-ids.result in
    let low : j < length ids = omega (arith, c.loop-i-test.true) in
    let among = among_at ks j (key_of id) (map_at key_of ids j id (read_at ids j id low c.index-ids-ids.is)) in
    put_then ks c.args.near.now c.args.steps.now.items c.loop-i.steps.items c.push_step.new.steps.items c.loop-i.invariant
    (put_one ks c.args.near.now c.loop-i.steps.items c.push_step.new.steps.items c.step_of.result c.in_ok-push_step.ensures (record { among = subst (λ k. IsAmong k ks) (sym c.step_of.ensures.key) among; by = c.step_of.ensures.near }))
