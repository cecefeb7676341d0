use Rattle.std.proofs.Common.{subst, sym}
use Rattle.std.specs.Prelude.{Vec}
use Rattle.std.specs.declared.alloc.Global.{Global}
use Rattle.wac_wit_refusals_sites.specs.Judging.{body_syntax}
use Rattle.wac_wit_refusals_sites.specs.TypeLists.{AreMethodsOf, IsPlacedMethod}
use Rattle.wac_wit_refusals_sites.specs.declared.type_items.PlacedMethod.{PlacedMethod}
use Rattle.wac_wit_refusals_sites.proofs.TypeFacts.{among_from, none_among}
use Rattle.wac_wit_refusals_sites.proofs.judge.Judge.methods_of.Goals.{then-is_there+in_ok-push_methods, else-is_there}
use Rattle.wac_wit_refusals_sites.proofs.judge.Judge.methods_of.Goals as goal

pub loop-placed-init : goal.loop-placed-init
loop-placed-init c of knows = none_among (IsPlacedMethod of (body_syntax c.args.body.now)) c.new-all.result.items c.new-all.ensures.items

pub loop-placed-preserved : goal.loop-placed-preserved
loop-placed-preserved c of knows =
    let b = body_syntax c.args.body.now in
    let placed = c.placed-item.result in
    let among = among_from c.in_ok-types_of.field-0.items c.deref-placed-items.result.now c.loop-placed.placed-index placed c.deref-placed-items.ensures.value c.loop-placed-test.true c.placed-item.is in
    let at = c.in_ok-types_of.ensures.at placed among in
    elim c.if-is_there.branch [
      | then-is_there+in_ok-push_methods w ↦ subst (λ (v : Vec PlacedMethod Global). AreMethodsOf of b v.items) (sym w.all-is) (w.in_ok-push_methods.ensures of b knows (record { at = at; there = (c.is_there.ensures of knows).0 w.if-is_there.true }) (c.loop-placed.invariant of knows))
      | else-is_there w ↦ subst (λ (v : Vec PlacedMethod Global). AreMethodsOf of b v.items) (sym w.all-is) (c.loop-placed.invariant of knows)
    ]

pub returns : goal.returns
returns c = c.loop-placed.invariant
