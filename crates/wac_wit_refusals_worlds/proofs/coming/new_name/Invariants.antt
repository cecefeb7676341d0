use Rattle.wac_wit_refusals_worlds.proofs.ComingFacts.{NoneRenamedBelow}
use Rattle.wac_wit_refusals_worlds.proofs.coming.new_name.Given as goal

abbrev pub invariant-loop-rename : goal.invariant-loop-rename
invariant-loop-rename l = NoneRenamedBelow l.renames l.rename-index l.name
