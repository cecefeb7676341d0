use Rattle.wac_types.specs.HandedIn.{handed_in}
use Rattle.wac_wit_answers.specs.Calls.{AreHandedFrom}
use Rattle.wac_wit_answers.proofs.handing.push_imports.Given as goal

abbrev pub invariant-loop-name : goal.invariant-loop-name
invariant-loop-name l = AreHandedFrom l.sources (handed_in l.calls.items)
