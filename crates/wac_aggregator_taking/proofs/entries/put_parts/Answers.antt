use Rattle.std.proofs.Common.{◌∷◌, None, map, inl, ap, sym, subst, ◌∙◌}
use Rattle.wac_component.specs.Key.{next}
use Rattle.wac_component.specs.Naming.{key_of}
use Rattle.wac_component.specs.Reach.{IsAmong, here, there}
use Rattle.wac_aggregator_taking.specs.Steps.{ArePut}
use Rattle.wac_aggregator_taking.proofs.StepLemmas.{ok_then, put_one, put_then, put_more}
use Rattle.wac_aggregator_taking.proofs.entries.put_parts.Goals as goal

pub returns : goal.returns
returns c =
    let f = c.args.types.now in
    let k = key_of c.args.id in
    let ks = k ∷ next f k in
    let ss = c.args.steps.now.items in
    let mid = c.push_step.new.steps.items in
    let ts = c.push_ids.new.steps.items in
    let first = put_one ks None ss mid c.args.again c.in_ok-push_step.ensures (record { among = subst (λ j. IsAmong j ks) (sym c.requires.again.0) here; by = inl c.requires.again.1 }) in
    ok_then c.push_ids.result c.push_ids.ensures (λ put. put_then ks None ss mid ts first
    (put_more (next f k) ks None mid ts (λ j m. there m) (subst (λ js. ArePut js None mid ts) (ap (map key_of) c.deref.ensures.value ∙ c.in_ok-ids.ensures) put)))
