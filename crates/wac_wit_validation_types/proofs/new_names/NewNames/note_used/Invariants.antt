use Rattle.std.proofs.Common.{[]}
use Rattle.wac_wit_validation_types.specs.Reading.{AreNamesBy}
use Rattle.wac_wit_validation_types.proofs.new_names.NewNames.note_used.Given as goal

abbrev pub invariant-loop-rename : goal.invariant-loop-rename
invariant-loop-rename l = AreNamesBy l.initial.self [] → AreNamesBy l.self []
