use Rattle.std.proofs.Common.{rules, add-one, sym}
use Rattle.wac_model.specs.Text.{import_name_eq}
use Rattle.wac_model.specs.CoreTree.{CoreFits}
use Rattle.wac_model.proofs.Lookups.{one_more_served, import_name_eq-Decides}
use Rattle.wac_core.specs.Content.{core_tree, import_name, module_content}
use Rattle.wac_core_checker.proofs.ExternLemmas.{refused_here_explains}
use Rattle.wac_core_checker.proofs.modules.imports_fit.Goals as goal

pub loop-i-preserved : goal.loop-i-preserved
loop-i-preserved c = rw add-one (one_more_served import_name_eq import_name_eq-Decides CoreFits (module_content c.args.b.now).imports (module_content c.args.a.now).imports c.loop-i.i (import_name c.import_at.result.0.now) (core_tree c.in-Some.given.now) (core_tree c.import_at.result.1.now) c.import_at.ensures.at c.import_at.ensures.named (sym c.in-Some.ensures) c.in_default.ensures c.loop-i.invariant)

pub returns-in-Err : goal.returns-in-Err
returns-in-Err c = let below = refused_here_explains c.turned_check.result (core_tree c.in-Some.given.now) (core_tree c.import_at.result.1.now) c.in-Err.e c.in-Err.ensures in search rules
