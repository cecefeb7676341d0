use Rattle.std.proofs.Common.{subst, sym}
use Rattle.wac_wit_refusals_types.specs.BorrowSteps.{AreCarriedAt}
use Rattle.wac_wit_refusals_types.specs.declared.type_sites.Followed.{Followed}
use Rattle.wac_wit_refusals_sites.proofs.TypeFacts.{among_from}
use Rattle.wac_wit_refusals_types.proofs.carried.push_carried.Goals.{then-is_at+in_ok-push_carried_by, else-is_at}
use Rattle.wac_wit_refusals_types.proofs.carried.push_carried.Goals as goal

pub loop-written-init : goal.loop-written-init
loop-written-init c of knows all = all

pub loop-written-preserved : goal.loop-written-preserved
loop-written-preserved c of knows all =
    let written = c.written-item.result in
    let among = among_from c.in_ok-written_in.field-0.items c.deref-written-items.result.now c.loop-written.written-index written c.deref-written-items.ensures.value c.loop-written-test.true c.written-item.is in
    let before = c.loop-written.invariant of knows all in
    elim c.if-is_at.branch [
      | then-is_at+in_ok-push_carried_by w ↦ subst (λ (f : Followed). AreCarriedAt of c.args.wanted c.args.placed.now c.args.span f.found.items) (sym w.followed-is)
          (w.in_ok-push_carried_by.ensures of c.args.span (λ carries. record { inside = written.name.now; expr = written.ty.now; has = c.in_ok-written_in.ensures of knows written among; is_at = c.is_at.ensures w.if-is_at.true; carries = carries }) before)
      | else-is_at w ↦ subst (λ (f : Followed). AreCarriedAt of c.args.wanted c.args.placed.now c.args.span f.found.items) (sym w.followed-is) before
    ]

pub returns : goal.returns
returns c = c.loop-written.invariant
