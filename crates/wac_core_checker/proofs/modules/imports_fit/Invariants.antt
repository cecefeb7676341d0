use Rattle.std.proofs.Common.{take}
use Rattle.wac_model.specs.Text.{import_name_eq}
use Rattle.wac_core.specs.Content.{module_content}
use Rattle.wac_core_checker.specs.Verdict.{AreCoreServed}
use Rattle.wac_core_checker.proofs.modules.imports_fit.Given as goal

abbrev pub invariant-loop-i : goal.invariant-loop-i
invariant-loop-i l = AreCoreServed import_name_eq (module_content l.b).imports (take l.i (module_content l.a).imports)
