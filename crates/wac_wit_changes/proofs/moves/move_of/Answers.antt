use Rattle.std.proofs.Common.{ap, sym, subst, ◌∙◌}
use Rattle.wac_component.proofs.Extended.{Extends-same}
use Rattle.wac_component.specs.Growth.{Extends}
use Rattle.wac_wit_changes.proofs.moves.move_of.Goals as goal
use Rattle.wac_wit_changes.proofs.moves.move_of.Goals.{then-is_moved+in_ok-moved, else-is_moved}

pub returns-clause-grows : goal.returns-clause-grows
returns-clause-grows c = elim c.if-is_moved.branch [
  | then-is_moved+in_ok-moved w ↦ subst (Extends c.args.types.now) (sym w.types-is) w.moved_worlds.ensures
  | else-is_moved w ↦ Extends-same c.args.types.now c.if-is_moved.types w.types-is
]

pub returns-clause-own : goal.returns-clause-own
returns-clause-own c = record {
  found = c.in_ok-found.ensures c.args.new.now.packages.items c.requires.known;
  own = λ d is on. elim c.if-is_moved.branch [
    | then-is_moved+in_ok-moved w ↦ let stays = c.is_moved.ensures d is on in let moves = w.if-is_moved.true in absurd (cc (stays, moves))
    | else-is_moved w ↦ ap (λ m. m.entries) w.moved-is ∙ w.new-moved.ensures.empty
  ];
}
