use Rattle.std.proofs.Common.{sym, subst}
use Rattle.wac_wit_validation.specs.WorldChecking.{StaysAs}
use Rattle.wac_wit_validation.proofs.WorldFacts.{StaysAs-trans}
use Rattle.wac_wit_validation.proofs.validator.Validator.add_exported.Goals as goal
use Rattle.wac_wit_validation.proofs.validator.Validator.add_exported.Goals.{in-Some+in_ok-add_if_new, in_default}

pub loop-index-preserved : goal.loop-index-preserved
loop-index-preserved c = elim c.match-get_index.branch [
  | in-Some+in_ok-add_if_new w ↦
      subst (StaysAs c.args.self.now) (sym w.self-is) (StaysAs-trans c.args.self.now c.loop-index.self w.add_if_new.new.self c.loop-index.invariant w.add_if_new.ensures)
  | in_default w ↦ subst (StaysAs c.args.self.now) (sym w.self-is) c.loop-index.invariant
]
