use Rattle.std.proofs.Common.{rules, add-one, sym, string_bytes}
use Rattle.std.specs.Str.{bytes_eq}
use Rattle.std.proofs.lemmas.Slice.Eq.{bytes_eq-Decides}
use Rattle.wac_model.specs.CoreTree.{CoreFits}
use Rattle.wac_model.proofs.Lookups.{one_more_served}
use Rattle.wac_core.specs.Content.{core_tree, module_content}
use Rattle.wac_mismatch.specs.declared.check.SubtypeCheck.TheVariants.{Covariant}
use Rattle.wac_core_checker.proofs.ExternLemmas.{refused_here_explains}
use Rattle.wac_core_checker.proofs.modules.exports_fit.Goals as goal

pub loop-i-preserved : goal.loop-i-preserved
loop-i-preserved c = rw add-one (one_more_served bytes_eq bytes_eq-Decides CoreFits (module_content c.args.a.now).exports (module_content c.args.b.now).exports c.loop-i.i (string_bytes c.export_at.result.0.now) (core_tree c.in-Some.given.now) (core_tree c.export_at.result.1.now) c.export_at.ensures.at c.export_at.ensures.named (sym c.in-Some.ensures) c.in_default.ensures c.loop-i.invariant)

pub returns-in-Err : goal.returns-in-Err
returns-in-Err c = let below = refused_here_explains Covariant (core_tree c.in-Some.given.now) (core_tree c.export_at.result.1.now) c.in-Err.e c.in-Err.ensures in search rules
