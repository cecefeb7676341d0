use Rattle.std.proofs.Common.{◌≡◌, ◌∙◌, ap, refl}
use Rattle.std.specs.Prelude.{Vec}
use Rattle.std.specs.declared.alloc.Global.{Global}
use Rattle.wac_wit_refusals_sites.proofs.TypeFacts.{ListedBelow-end, ListedBelow-more, ListedBelow-none, ListedBelow-skip}
use Rattle.wac_wit_refusals_sites.specs.declared.type_items.PlacedUse.{PlacedUse}
use Rattle.wac_wit_syntax.specs.declared.tree.InterfaceItem.TheVariants as inside
use Rattle.wac_wit_syntax.specs.declared.tree.UseItem.{UseItem}
use Rattle.wac_wit_refusals_sites.proofs.type_items.interface_uses.Goals.{in-Use+in_ok-push, in_default}
use Rattle.wac_wit_refusals_sites.proofs.type_items.interface_uses.Goals as goal

pub loop-index-init : goal.loop-index-init
loop-index-init c = ListedBelow-none inside.Use (λ (p : PlacedUse). p.item) (λ (p : PlacedUse). p.used.now) c.args.items.now c.new-uses.result.items c.new-uses.ensures.items

pub loop-index-preserved : goal.loop-index-preserved
loop-index-preserved c =
    let items = c.args.items.now in
    let index = c.loop-index.index in
    let item = c.index-items-index.result in
    let one : (a b : UseItem) → inside.Use a ≡ inside.Use b → a ≡ b = λ a b h. cc in
    elim c.match-item.branch [
      | in-Use+in_ok-push w ↦ ListedBelow-more inside.Use (λ (p : PlacedUse). p.item) (λ (p : PlacedUse). p.used.now) items index item w.in-Use.used _ c.loop-index.uses.items c.match-item.uses.items c.loop-index-test.true c.index-items-index.is w.in-Use.is one refl refl (ap (λ (v : Vec PlacedUse Global). v.items) w.uses-is ∙ w.in_ok-push.ensures.items) c.loop-index.invariant
      | in_default w ↦ ListedBelow-skip inside.Use (λ (p : PlacedUse). p.item) (λ (p : PlacedUse). p.used.now) items index item c.loop-index.uses.items c.match-item.uses.items c.loop-index-test.true c.index-items-index.is w.in_default.not-Use (ap (λ (v : Vec PlacedUse Global). v.items) w.uses-is) c.loop-index.invariant
    ]

pub returns : goal.returns
returns c = record {
  at = c.loop-index.invariant.at;
  all = λ t among. let h = ListedBelow-end inside.Use (λ (p : PlacedUse). p.item) (λ (p : PlacedUse). p.used.now) c.args.items.now c.loop-index.index c.loop-index.uses.items c.loop-index-test.false c.loop-index.invariant t among in record { placed = h.placed; among = h.among; is = h.is };
}
