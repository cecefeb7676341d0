use Rattle.std.proofs.Common.{take}
use Rattle.wac_component.specs.Content.{named}
use Rattle.wac_package.specs.Definitions.{AreDefinitions}
use Rattle.wac_package.proofs.definitions.find_definitions.Given as goal

abbrev pub invariant-loop-i : goal.invariant-loop-i
invariant-loop-i l = AreDefinitions l.types (take l.i (named (λ k. k) l.exports.entries)) (named (λ k. k) l.definitions.entries)
