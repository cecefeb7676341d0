use Rattle.std.proofs.Common.{take}
use Rattle.std.specs.Str.{bytes_eq}
use Rattle.wac_core.specs.Content.{module_content}
use Rattle.wac_core_checker.specs.Verdict.{AreCoreServed}
use Rattle.wac_core_checker.proofs.modules.exports_fit.Given as goal

abbrev pub invariant-loop-i : goal.invariant-loop-i
invariant-loop-i l = AreCoreServed bytes_eq (module_content l.a).exports (take l.i (module_content l.b).exports)
