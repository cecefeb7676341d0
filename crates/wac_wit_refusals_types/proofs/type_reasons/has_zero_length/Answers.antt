use Rattle.wac_wit_refusals_sites.proofs.TypeFacts.{among_from}
use Rattle.wac_wit_refusals_types.proofs.type_reasons.has_zero_length.Goals as goal

pub returns-then-is_length_zero : goal.returns-then-is_length_zero
returns-then-is_length_zero c is of knows =
    let written = c.written-item.result in
    let among = among_from c.in_ok-written_in.field-0.items c.deref-written-items.result.now c.loop-written.written-index written c.deref-written-items.ensures.value c.loop-written-test.true c.written-item.is in
    record { inside = written.name.now; expr = written.ty.now; has = c.in_ok-written_in.ensures of knows written among; is = c.is_length_zero.ensures c.if-is_length_zero.true }
