use Rattle.std.proofs.Common.{◌∙◌, List, ◌+◌, Vec, ap, subst, sym}
use Rattle.std.specs.Borrow.{Bor}
use Rattle.std.specs.declared.alloc.Global.{Global}
use Rattle.wac_wit_syntax.specs.declared.tree.WorldItem.{WorldItem}
use Rattle.wac_wit_validation.proofs.LayerFacts.{AreNamingBelow, AreNamingBelow-end, AreNamingBelow-none, AreNamingBelow-push, AreNamingBelow-skip, not_false}
use Rattle.wac_wit_validation.proofs.validator.Validator.naming_items.Goals.{then-gives_names+in_ok-push, else-gives_names}
use Rattle.wac_wit_validation.proofs.validator.Validator.naming_items.Goals as goal

pub loop-item-init : goal.loop-item-init
loop-item-init c = λ of knows. subst (λ (bs : List (Bor WorldItem)). AreNamingBelow of c.args.items.now bs 0) (sym c.new-naming.ensures.items) (AreNamingBelow-none of c.args.items.now)

pub loop-item-preserved : goal.loop-item-preserved
loop-item-preserved c = λ of knows.
    let items = c.args.items.now in
    let index = c.loop-item.item-index in
    let naming = c.loop-item.naming.items in
    elim c.if-gives_names.branch [
      | then-gives_names+in_ok-push w ↦ subst (λ (bs : List (Bor WorldItem)). AreNamingBelow of items bs (index + 1)) (sym (ap (λ (v : Vec (Bor WorldItem) Global). v.items) w.naming-is ∙ w.in_ok-push.ensures.items))
          (AreNamingBelow-push of items naming _ index c.loop-item-test.true c.item-item.is (c.loop-item.invariant of knows))
      | else-gives_names w ↦ subst (λ (v : Vec (Bor WorldItem) Global). AreNamingBelow of items v.items (index + 1)) (sym w.naming-is)
          (AreNamingBelow-skip of items naming c.item-item.result index c.loop-item-test.true c.item-item.is (λ gives. not_false c.gives_names.result w.if-gives_names.false (c.gives_names.ensures of knows gives)) (c.loop-item.invariant of knows))
    ]

pub returns : goal.returns
returns c = λ of knows. AreNamingBelow-end of c.args.items.now c.loop-item.naming.items c.loop-item.item-index c.loop-item-test.false (c.loop-item.invariant of knows)
