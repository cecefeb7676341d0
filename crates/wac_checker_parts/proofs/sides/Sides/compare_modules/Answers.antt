use Rattle.std.proofs.Common.{sym, subst₂, arith}
use Rattle.wac_component.specs.Id.{Id}
use Rattle.wac_component.specs.Tree.{module_tree}
use Rattle.wac_model.specs.CoreTree.{ModuleFits}
use Rattle.wac_model.specs.Order.{modules}
use Rattle.wac_mismatch.specs.declared.check.SubtypeCheck.TheVariants.{Covariant}
use Rattle.wac_checker_parts.specs.Pairs.{EntriesFit, Modules}
use Rattle.wac_checker_parts.proofs.PairLemmas.{entries_refuted, refuted}
use Rattle.wac_checker_parts.proofs.sides.Sides.compare_modules.Goals as goal

pub returns-in-Ok : goal.returns-in-Ok
returns-in-Ok c = ((λ q m. absurd (omega (arith, m.1))), (λ all. subst₂ (λ (a b : Id). EntriesFit c.args.self.now.left.now c.args.self.now.right.now (Modules a b)) c.module_at.ensures c.module_at-2.ensures (λ k. modules (subst₂ ModuleFits (sym c.index-a.ensures.tree) (sym c.index-b.ensures.tree) c.in-Ok.ensures))))

pub returns-in-Err-Mismatch : goal.returns-in-Err-Mismatch
returns-in-Err-Mismatch c = (
  (λ q m. absurd (omega (arith, m.1))),
  (subst₂ (λ (a b : Id). ¬ (EntriesFit c.args.self.now.left.now c.args.self.now.right.now (Modules a b))) c.module_at.ensures c.module_at-2.ensures (refuted c.in-Err-Mismatch.field-0 (EntriesFit c.args.self.now.left.now c.args.self.now.right.now (Modules c.module_at.result c.module_at-2.result)) (entries_refuted Covariant c.args.self.now.left.now c.args.self.now.right.now (Modules c.module_at.result c.module_at-2.result) c.in-Err-Mismatch.field-0 (λ k. c.in-Err-Mismatch.ensures k (module_tree c.args.self.now.left.now c.module_at.result) (module_tree c.args.self.now.right.now c.module_at-2.result) c.index-a.ensures.tree c.index-b.ensures.tree)) (λ e. absurd (cc (e, c.in-Err-Mismatch.field-0-is))))),
  tt,
)
