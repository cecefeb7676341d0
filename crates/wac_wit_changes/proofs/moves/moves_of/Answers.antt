use Rattle.std.proofs.Common.{All, sym, subst, ◌∙◌, ◌≤◌, length}
use Rattle.std.proofs.lemmas.List.{take_all}
use Rattle.std.proofs.lemmas.List.Elements.{All-push}
use Rattle.wac_component.proofs.Extended.{Extends-trans}
use Rattle.wac_wit_changes.specs.Sides.{IsMove}
use Rattle.wac_wit_changes.proofs.Reports.{olds_more}
use Rattle.wac_wit_changes.proofs.moves.moves_of.Goals as goal

pub loop-package-preserved : goal.loop-package-preserved
loop-package-preserved c = (
  Extends-trans c.args.types.now c.loop-package.types c.move_of.new.types c.loop-package.invariant.0 c.move_of.ensures.grows,
  olds_more c.loop-package.moves.items c.push.new.self.items c.in_ok-move_of.field-0 c.args.old.now.packages.items c.loop-package.package-index c.package-item.result
      c.loop-package.invariant.1 c.in_ok-push.ensures.items c.in_ok-move_of.ensures.old (rw (← c.deref-package-items.ensures.value) c.loop-package-test.true) (rw (← c.deref-package-items.ensures.value) c.package-item.is),
  subst (All (IsMove c.args.new.now.packages.items)) (sym c.in_ok-push.ensures.items) (All-push (IsMove c.args.new.now.packages.items) c.loop-package.moves.items c.in_ok-move_of.field-0 c.loop-package.invariant.2 c.in_ok-move_of.ensures.own),
)

pub returns-clause-olds : goal.returns-clause-olds
returns-clause-olds c =
    let past : length c.args.old.now.packages.items ≤ c.loop-package.package-index = rw (← c.deref-package-items.ensures.value) c.loop-package-test.false in
    c.loop-package.invariant.1 ∙ take_all c.loop-package.package-index c.args.old.now.packages.items past

pub returns-clause-grows : goal.returns-clause-grows
returns-clause-grows c = c.loop-package.invariant.0

pub returns-in_err-move_of-clause-grows : goal.returns-in_err-move_of-clause-grows
returns-in_err-move_of-clause-grows c = Extends-trans c.args.types.now c.loop-package.types c.move_of.new.types c.loop-package.invariant.0 c.move_of.ensures.grows

pub returns-in_err-push-clause-grows : goal.returns-in_err-push-clause-grows
returns-in_err-push-clause-grows c = Extends-trans c.args.types.now c.loop-package.types c.move_of.new.types c.loop-package.invariant.0 c.move_of.ensures.grows

pub returns-clause-moves : goal.returns-clause-moves
returns-clause-moves c = c.loop-package.invariant.2
