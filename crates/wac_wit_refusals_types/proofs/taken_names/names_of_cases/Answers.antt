use Rattle.std.proofs.Common.{refl}
use Rattle.wac_wit_refusals_types.specs.NamesTwice.{TakesCaseName, a_case_name}
use Rattle.wac_wit_refusals_types.specs.declared.taken_names.TakenName.{TakenName}
use Rattle.wac_wit_refusals_types.proofs.TwiceFacts.{taken_push}
use Rattle.wac_wit_refusals_sites.proofs.TypeFacts.{at_read, none_among}
use Rattle.wac_wit_refusals_types.proofs.taken_names.names_of_cases.Goals as goal

pub loop-index-init : goal.loop-index-init
loop-index-init c = none_among (λ (n : TakenName). TakesCaseName c.args.cases.now n.item n.part n.name.now) c.new-names.result.items c.new-names.ensures.items

pub loop-index-preserved : goal.loop-index-preserved
loop-index-preserved c =
    let item = c.index-cases-index.result in
    let at = at_read c.args.cases.now c.loop-index.index item item c.loop-index-test.true c.index-cases-index.is refl in
    taken_push (TakesCaseName c.args.cases.now) c.loop-index.names.items c.push.new.self.items _ _ _ c.of_item.ensures.item c.of_item.ensures.part c.of_item.ensures.name c.in_ok-push.ensures.items c.loop-index.invariant (a_case_name c.loop-index.index item at)

pub returns : goal.returns
returns c = c.loop-index.invariant
