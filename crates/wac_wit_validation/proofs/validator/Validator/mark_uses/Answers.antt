use Rattle.std.proofs.Common.{subst, Contains, [], ◌∷◌}
use Rattle.wac_wit_syntax.specs.declared.tree.InterfaceItem.{InterfaceItem}
use Rattle.wac_wit_validation_types.specs.Denoted.{uses_in}
use Rattle.wac_wit_validation_types.specs.Placed.{PlacedInterface}
use Rattle.wac_wit_validation_types.specs.Worlds.{UsesInterface}
use Rattle.wac_wit_validation_types.proofs.ItemFacts.{use_kept}
use Rattle.wac_wit_validation_types.proofs.MarkFacts.{among_at}
use Rattle.wac_wit_validation.proofs.WorldFacts.{uses_among}
use Rattle.wac_wit_validation.proofs.validator.Validator.mark_uses.Goals.{in_default-via-in-Type-1, in_default-via-in-Use+in_ok-mark_use+else-not-branch}
use Rattle.wac_wit_validation.proofs.validator.Validator.mark_uses.Goals as goal

pub loop-item-preserved : goal.loop-item-preserved
loop-item-preserved c = λ of w x at used marks. elim c.in_default.branch [
  | in_default-via-in-Type-1 s ↦ rw s.marks-is (c.loop-item.invariant of w x at used marks)
  | in_default-via-in-Use+in_ok-mark_use+else-not-branch s ↦
      let among = among_at c.args.items.now c.loop-item.item-index c.item-item.result c.loop-item-test.true c.item-item.is in
      let here = use_kept s.in-Use.it c.args.items.now (subst (λ (y : InterfaceItem). Contains c.args.items.now y) s.in-Use.is among) in
      let more = λ (i : PlacedInterface) (h : UsesInterface of x (s.in-Use.it ∷ []) i). uses_among of x (uses_in c.args.items.now) s.in-Use.it i here h in
      rw s.marks-is (s.in_ok-mark_use.ensures s.if-not-branch.false of w x at (λ i h. used i (more i h)) (c.loop-item.invariant of w x at used marks))
]
