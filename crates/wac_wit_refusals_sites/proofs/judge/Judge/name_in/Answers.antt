use Rattle.wac_wit_refusals_sites.proofs.TypeFacts.{among_from}
use Rattle.wac_wit_refusals_sites.proofs.judge.Judge.name_in.Goals as goal

pub returns-in-loop-written : goal.returns-in-loop-written
returns-in-loop-written c of knows file known =
    let written = c.written-item.result in
    let among = among_from c.in_ok-written_in.field-0.items c.deref-written-items.result.now c.loop-written.written-index written c.deref-written-items.ensures.value c.loop-written-test.true c.written-item.is in
    record { known = known; inside = written.name.now; written = c.in_ok-written_in.ensures of knows written among; is = c.in-Some.ensures; place = c.is_at.ensures c.if-is_at.true }
