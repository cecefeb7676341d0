use Rattle.std.proofs.Common.{◌≡◌, ◌==◌, ◌∙◌, List, ◌+◌, Vec, ap, length, subst, sym, true}
use Rattle.std.specs.declared.alloc.Global.{Global}
use Rattle.wac_wit_validation_names.specs.declared.layers.Layer.{Layer}
use Rattle.wac_wit_validation_names.proofs.RenamedLayers.{AddsRenamed, AddsRenamed-none, AddsRenamed-push, AddsRenamed-skip, AllRenamed-end}
use Rattle.wac_wit_validation_names.proofs.layers.push_renamed.Goals.{then-not-is_empty+in_ok-renamed+in_ok-push, else-not-is_empty}
use Rattle.wac_wit_validation_names.proofs.layers.push_renamed.Goals as goal

pub loop-layer-init : goal.loop-layer-init
loop-layer-init c = AddsRenamed-none c.args.inside.now c.args.by.now c.args.layers.now.items

pub loop-layer-preserved : goal.loop-layer-preserved
loop-layer-preserved c =
    let inside = c.args.inside.now in
    let by = c.args.by.now in
    let old = c.args.layers.now.items in
    let index = c.loop-layer.layer-index in
    let layer = c.layer-item.result in
    elim c.if-not-is_empty.branch [
      | then-not-is_empty+in_ok-renamed+in_ok-push w ↦ subst (λ (ls : List Layer). AddsRenamed inside by old ls (index + 1)) (sym (ap (λ (v : Vec Layer Global). v.items) w.layers-is ∙ w.in_ok-push.ensures.items))
          (AddsRenamed-push inside by old c.loop-layer.layers.items layer _ index c.loop-layer-test.true c.layer-item.is w.in_ok-renamed.ensures c.loop-layer.invariant)
      | else-not-is_empty w ↦
          let none : (length layer.items.items == 0) ≡ true = cc (c.is_empty.ensures, w.if-not-is_empty.false) in
          subst (λ (v : Vec Layer Global). AddsRenamed inside by old v.items (index + 1)) (sym w.layers-is) (AddsRenamed-skip inside by old c.loop-layer.layers.items layer index c.loop-layer-test.true c.layer-item.is none c.loop-layer.invariant)
    ]

pub returns-clause-grows : goal.returns-clause-grows
returns-clause-grows c = c.loop-layer.invariant.grows

pub returns-clause-each : goal.returns-clause-each
returns-clause-each c = c.loop-layer.invariant.each

pub returns-clause-all : goal.returns-clause-all
returns-clause-all c = AllRenamed-end c.args.inside.now c.args.by.now c.loop-layer.layers.items c.loop-layer.layer-index c.loop-layer-test.false c.loop-layer.invariant.all
