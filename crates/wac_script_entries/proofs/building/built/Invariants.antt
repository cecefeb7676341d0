use Rattle.std.proofs.Common.{◌≡◌}
use Rattle.wac_script_entries.proofs.building.built.Given as goal

abbrev pub invariant-loop-line : goal.invariant-loop-line
invariant-loop-line l = l.types.number ≡ l.number
