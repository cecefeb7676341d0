use Rattle.wac_wit_refusals_sites.specs.Judging.{body_syntax}
use Rattle.wac_wit_refusals_sites.specs.TypeSites.{HasSignature, of_method}
use Rattle.wac_wit_refusals_sites.specs.declared.type_items.NamedSignature.{NamedSignature}
use Rattle.wac_wit_refusals_sites.proofs.TypeFacts.{among_from, kept_push}
use Rattle.wac_wit_refusals_sites.proofs.judge.Judge.push_resource_signatures.Goals as goal

pub loop-placed-init : goal.loop-placed-init
loop-placed-init c of knows all = all

pub loop-placed-preserved : goal.loop-placed-preserved
loop-placed-preserved c of knows all =
    let b = body_syntax c.args.body.now in
    let placed = c.placed-item.result in
    let among = among_from c.in_ok-methods_of.field-0.items c.deref-placed-items.result.now c.loop-placed.placed-index placed c.deref-placed-items.ensures.value c.loop-placed-test.true c.placed-item.is in
    kept_push (λ (s : NamedSignature). HasSignature of b s.name.now s.signature.now) c.loop-placed.all.items c.push.new.self.items _ c.in_ok-push.ensures.items (c.loop-placed.invariant of knows all) (of_method b placed.item placed.part placed.resource.now placed.method.now (c.in_ok-methods_of.ensures of knows placed among))

pub returns : goal.returns
returns c = c.loop-placed.invariant
