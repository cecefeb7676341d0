use Rattle.wac_wit_refusals_sites.proofs.TypeFacts.{among_from}
use Rattle.wac_wit_refusals_types.proofs.type_reasons.has_named_as_resource.Goals as goal

pub returns-then-names_resource : goal.returns-then-names_resource
returns-then-names_resource c is of knows =
    let placed = c.placed-item.result in
    let among = among_from c.in_ok-methods_of.field-0.items c.deref-placed-items.result.now c.loop-placed.placed-index placed c.deref-placed-items.ensures.value c.loop-placed-test.true c.placed-item.is in
    record {
      index = placed.item;
      method_index = placed.part;
      resource = placed.resource.now;
      method = placed.method.now;
      has = c.in_ok-methods_of.ensures of knows placed among;
      names = c.names_resource.ensures c.if-names_resource.true;
      place = c.is_at.ensures c.if-is_at.true;
    }
