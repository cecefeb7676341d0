use Rattle.std.proofs.Common.{◌≡◌, ◌∙◌, ap, refl}
use Rattle.std.specs.Prelude.{Vec}
use Rattle.std.specs.declared.alloc.Global.{Global}
use Rattle.wac_wit_refusals_sites.proofs.TypeFacts.{ListedBelow-end, ListedBelow-more, ListedBelow-none, ListedBelow-skip}
use Rattle.wac_wit_refusals_sites.specs.declared.type_items.PlacedType.{PlacedType}
use Rattle.wac_wit_syntax.specs.declared.tree.InterfaceItem.TheVariants as inside
use Rattle.wac_wit_syntax.specs.declared.tree.TypeItem.{TypeItem}
use Rattle.wac_wit_refusals_sites.proofs.type_items.interface_types.Goals.{in-Type+in_ok-push, in_default}
use Rattle.wac_wit_refusals_sites.proofs.type_items.interface_types.Goals as goal

pub loop-index-init : goal.loop-index-init
loop-index-init c = ListedBelow-none inside.Type (λ (p : PlacedType). p.item) (λ (p : PlacedType). p.ty.now) c.args.items.now c.new-types.result.items c.new-types.ensures.items

pub loop-index-preserved : goal.loop-index-preserved
loop-index-preserved c =
    let items = c.args.items.now in
    let index = c.loop-index.index in
    let item = c.index-items-index.result in
    let one : (a b : TypeItem) → inside.Type a ≡ inside.Type b → a ≡ b = λ a b h. cc in
    elim c.match-item.branch [
      | in-Type+in_ok-push w ↦ ListedBelow-more inside.Type (λ (p : PlacedType). p.item) (λ (p : PlacedType). p.ty.now) items index item w.in-Type.ty _ c.loop-index.types.items c.match-item.types.items c.loop-index-test.true c.index-items-index.is w.in-Type.is one refl refl (ap (λ (v : Vec PlacedType Global). v.items) w.types-is ∙ w.in_ok-push.ensures.items) c.loop-index.invariant
      | in_default w ↦ ListedBelow-skip inside.Type (λ (p : PlacedType). p.item) (λ (p : PlacedType). p.ty.now) items index item c.loop-index.types.items c.match-item.types.items c.loop-index-test.true c.index-items-index.is w.in_default.not-Type (ap (λ (v : Vec PlacedType Global). v.items) w.types-is) c.loop-index.invariant
    ]

pub returns : goal.returns
returns c = record {
  at = c.loop-index.invariant.at;
  all = λ t among. let h = ListedBelow-end inside.Type (λ (p : PlacedType). p.item) (λ (p : PlacedType). p.ty.now) c.args.items.now c.loop-index.index c.loop-index.types.items c.loop-index-test.false c.loop-index.invariant t among in record { placed = h.placed; among = h.among; is = h.is };
}
