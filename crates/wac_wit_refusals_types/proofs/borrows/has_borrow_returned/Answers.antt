use Rattle.std.proofs.Common.{refl}
use Rattle.wac_wit_refusals_sites.proofs.TypeFacts.{among_from}
use Rattle.wac_wit_refusals_types.proofs.borrows.has_borrow_returned.Goals as goal

pub returns-then-branch : goal.returns-then-branch
returns-then-branch c is of knows =
    let named = c.named-item.result in
    let among = among_from c.in_ok-signatures_of.field-0.items c.deref-named-items.result.now c.loop-named.named-index named c.deref-named-items.ensures.value c.loop-named-test.true c.named-item.is in
    record { name = named.name.now; signature = named.signature.now; has = c.in_ok-signatures_of.ensures of knows named among; is_at = c.if-is_at.ensures refl; borrow = c.in_ok-returns_borrow.ensures c.if-branch.true of knows }
