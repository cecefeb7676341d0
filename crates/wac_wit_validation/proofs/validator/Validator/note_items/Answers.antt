use Rattle.std.proofs.Common.{sym, subst}
use Rattle.wac_wit_validation.specs.WorldChecking.{StaysAs}
use Rattle.wac_wit_validation.proofs.WorldFacts.{StaysAs-trans}
use Rattle.wac_wit_validation.proofs.validator.Validator.note_items.Goals as goal
use Rattle.wac_wit_validation.proofs.validator.Validator.note_items.Goals.{in-Include+in_ok-note_include, in_default}

pub loop-item-preserved : goal.loop-item-preserved
loop-item-preserved c = elim c.match-item.branch [
  | in-Include+in_ok-note_include w ↦
      subst (StaysAs c.args.self.now) (sym w.self-is) (StaysAs-trans c.args.self.now c.loop-item.self w.note_include.new.self c.loop-item.invariant w.note_include.ensures)
  | in_default w ↦ subst (StaysAs c.args.self.now) (sym w.self-is) c.loop-item.invariant
]
