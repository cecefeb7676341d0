use Rattle.wac_wit_refusals_sites.proofs.TypeFacts.{among_from}
use Rattle.wac_wit_refusals_types.proofs.constructors.has_not_constructed.Goals as goal

pub returns-then-returns_other : goal.returns-then-returns_other
returns-then-returns_other c is of knows =
    let placed = c.placed-item.result in
    let among = among_from c.in_ok-methods_of.field-0.items c.deref-placed-items.result.now c.loop-placed.placed-index placed c.deref-placed-items.ensures.value c.loop-placed-test.true c.placed-item.is in
    let found = c.returns_other.ensures c.if-returns_other.true in
    record {
      index = placed.item;
      method_index = placed.part;
      resource = placed.resource.now;
      method = placed.method.now;
      has = c.in_ok-methods_of.ensures of knows placed among;
      kind = found.kind;
      returned = found.returned;
      returns = found.returns;
      other = found.other.other;
      place = found.other.place;
    }
