use Rattle.std.proofs.Common.{◌∷◌, None, map, inl, ap, sym, subst, ◌∙◌}
use Rattle.wac_aggregator_memo.specs.EntryOrder.{HasOwn}
use Rattle.wac_component.specs.Key.{Each, next}
use Rattle.wac_aggregator_memo.specs.Memo.{memo_of}
use Rattle.wac_component.specs.Naming.{key_of}
use Rattle.wac_component.specs.Reach.{IsAmong, here, there}
use Rattle.wac_aggregator_taking.specs.Steps.{ArePut}
use Rattle.wac_aggregator_taking.proofs.StepLemmas.{put_one, put_then, put_more, put_none}
use Rattle.wac_aggregator_taking.proofs.entries.has_parts.Goals as goal

pub returns-then-has_all-clause-has : goal.returns-then-has_all-clause-has
returns-then-has_all-clause-has c = λ yes. subst (Each (HasOwn (memo_of c.args.taken.now))) (ap (map key_of) c.deref.ensures.value ∙ c.in_ok-ids.ensures) (c.has_all.ensures c.if-has_all.true)

pub returns-then-has_all-clause-steps : goal.returns-then-has_all-clause-steps
returns-then-has_all-clause-steps c = put_none (key_of c.args.id ∷ next c.args.types.now (key_of c.args.id)) None c.args.steps.now.items

pub returns-clause-steps : goal.returns-clause-steps
returns-clause-steps c =
    let f = c.args.types.now in
    let k = key_of c.args.id in
    let ks = k ∷ next f k in
    let first = put_one ks None c.args.steps.now.items c.push_step.new.steps.items c.args.again c.in_ok-push_step.ensures (record { among = subst (λ j. IsAmong j ks) (sym c.requires.again.0) here; by = inl c.requires.again.1 }) in
    put_then ks None c.args.steps.now.items c.push_step.new.steps.items c.push_ids.new.steps.items first
    (put_more (next f k) ks None c.push_step.new.steps.items c.push_ids.new.steps.items (λ j m. there m)
    (subst (λ js. ArePut js None c.push_step.new.steps.items c.push_ids.new.steps.items) (ap (map key_of) c.deref-2.ensures.value ∙ c.in_ok-ids.ensures) c.in_ok-push_ids.ensures))
