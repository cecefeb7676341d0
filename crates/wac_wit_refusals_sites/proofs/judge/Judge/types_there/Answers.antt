use Rattle.std.proofs.Common.{◌∙◌, ap, subst, sym}
use Rattle.std.specs.Borrow.{Bor}
use Rattle.std.specs.Prelude.{Vec}
use Rattle.std.specs.declared.alloc.Global.{Global}
use Rattle.wac_wit_refusals_sites.specs.Judging.{body_syntax}
use Rattle.wac_wit_refusals_sites.specs.TypeLists.{AreThere}
use Rattle.wac_wit_refusals_sites.specs.TypeSites.{HasType}
use Rattle.wac_wit_syntax.specs.declared.tree.TypeItem.{TypeItem}
use Rattle.wac_wit_refusals_sites.proofs.TypeFacts.{among_from, kept_push, none_among, type_among}
use Rattle.wac_wit_refusals_sites.proofs.judge.Judge.types_there.Goals.{then-is_there+in_ok-push, else-is_there}
use Rattle.wac_wit_refusals_sites.proofs.judge.Judge.types_there.Goals as goal

pub loop-placed-init : goal.loop-placed-init
loop-placed-init c of knows = none_among (λ (t : Bor TypeItem). HasType of (body_syntax c.args.body.now) t.now) c.new-types.result.items c.new-types.ensures.items

pub loop-placed-preserved : goal.loop-placed-preserved
loop-placed-preserved c of knows =
    let b = body_syntax c.args.body.now in
    let placed = c.placed-item.result in
    let among = among_from c.in_ok-types_of.field-0.items c.deref-placed-items.result.now c.loop-placed.placed-index placed c.deref-placed-items.ensures.value c.loop-placed-test.true c.placed-item.is in
    let at = c.in_ok-types_of.ensures.at placed among in
    elim c.if-is_there.branch [
      | then-is_there+in_ok-push w ↦ kept_push (λ (t : Bor TypeItem). HasType of b t.now) c.loop-placed.types.items c.if-is_there.types.items _ (ap (λ (v : Vec (Bor TypeItem) Global). v.items) w.types-is ∙ w.in_ok-push.ensures.items) (c.loop-placed.invariant of knows)
          (record { among = type_among b placed.item placed.ty.now at; there = (c.is_there.ensures of knows).0 w.if-is_there.true })
      | else-is_there w ↦ subst (λ (v : Vec (Bor TypeItem) Global). AreThere of b v.items) (sym w.types-is) (c.loop-placed.invariant of knows)
    ]

pub returns : goal.returns
returns c = c.loop-placed.invariant
