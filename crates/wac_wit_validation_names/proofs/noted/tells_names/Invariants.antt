use Rattle.wac_wit_validation_names.specs.Noted.{TellsFrom}
use Rattle.wac_wit_validation_types.proofs.MarkFacts.{AllBelow}
use Rattle.wac_wit_validation_names.proofs.noted.tells_names.Given as goal

abbrev pub invariant-loop-rename : goal.invariant-loop-rename
invariant-loop-rename l = AllBelow (TellsFrom l.types l.noted l.from) l.renames l.rename-index
