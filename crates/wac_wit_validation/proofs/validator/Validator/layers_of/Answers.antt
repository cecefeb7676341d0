use Rattle.std.proofs.Common.{◌∙◌, List, [], ◌∷◌, ◌++◌, ap, subst, sym}
use Rattle.wac_wit_validation_names.specs.declared.layers.Layer.{Layer}
use Rattle.wac_wit_validation.proofs.LayerFacts.{AreLayersOf-all, LayersBelow, LayersBelow-more, LayersBelow-own}
use Rattle.wac_wit_validation.proofs.validator.Validator.layers_of.Goals as goal

pub loop-item-init : goal.loop-item-init
loop-item-init c =
    let pushed = ap (λ (ls : List Layer). ls ++ c.in_ok-own_layer.field-0 ∷ []) c.new-layers.ensures.items in
    subst (λ (ls : List Layer). LayersBelow c.args.self.now c.args.text.now ls 0) (sym (◌∙◌ {A = List Layer} c.in_ok-push.ensures.items pushed)) (LayersBelow-own c.args.self.now c.args.text.now c.in_ok-own_layer.field-0 c.in_ok-own_layer.ensures)

pub loop-item-preserved : goal.loop-item-preserved
loop-item-preserved c =
    let done = c.in_ok-push_inside.ensures in
    let all = c.if-not-branch.false in
    LayersBelow-more c.args.self.now c.args.text.now c.deref-item-items.result.now c.deref-item-items.ensures.value c.item-item.result c.loop-item.item-index c.loop-item-test.true c.item-item.is c.loop-item.layers.items c.push_inside.new.layers.items
    (done.grows all) (done.each all) (done.all all) c.loop-item.invariant

pub returns : goal.returns
returns c = AreLayersOf-all c.args.self.now c.args.text.now c.deref-item-items.result.now c.loop-item.layers.items c.loop-item.item-index c.deref-item-items.ensures.value c.loop-item-test.false c.loop-item.invariant
