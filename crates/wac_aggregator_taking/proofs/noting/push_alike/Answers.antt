use Rattle.std.proofs.Common.{◌∷◌, Some, map, inr, refl, sym, subst}
use Rattle.wac_component.specs.Key.{resource_key, interface_key}
use Rattle.wac_component.specs.Reach.{IsAmong, here, there}
use Rattle.wac_aggregator_taking.specs.Steps.{owed_keys}
use Rattle.wac_aggregator_taking.proofs.StepLemmas.{put_one, put_then, put_more, put_by, ok_then}
use Rattle.wac_aggregator_taking.proofs.noting.push_alike.Goals as goal

pub returns-in-None : goal.returns-in-None
returns-in-None c = ok_then c.push_step.result c.push_step.ensures (λ put. put_one (interface_key c.args.id ∷ owed_keys c.args.owed) (Some c.args.near) c.args.steps.now.items c.push_step.new.steps.items _ put (record { among = here; by = inr refl }))

pub returns-in_ok-push_step-in-Some : goal.returns-in_ok-push_step-in-Some
returns-in_ok-push_step-in-Some c =
    let rs = c.in-Some.resources.items in
    let ks = interface_key c.args.id ∷ owed_keys c.args.owed in
    let near = Some c.args.near in
    let mid = c.push_step-in-Some.new.steps.items in
    let ts = c.push_owners.new.steps.items in
    let first = put_one ks near c.args.steps.now.items mid _ c.in_ok-push_step-in-Some.ensures (record { among = here; by = inr refl }) in
    ok_then c.push_owners.result c.push_owners.ensures (λ put. put_then ks near c.args.steps.now.items mid ts first (put_by ks near mid ts (put_more (map resource_key rs) ks _ mid ts (λ j m. there (subst (λ o. IsAmong j (owed_keys o)) (sym c.in-Some.is) m)) put)))
