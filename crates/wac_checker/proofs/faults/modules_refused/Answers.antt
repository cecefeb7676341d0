use Rattle.std.proofs.Common.{sym, subst₂}
use Rattle.wac_component.specs.Id.{Id}
use Rattle.wac_model.specs.CoreTree.{ModuleFits}
use Rattle.wac_model.specs.Order.{modules}
use Rattle.wac_checker_parts.specs.Pairs.{EntriesFit, Modules}
use Rattle.wac_checker.proofs.faults.modules_refused.Goals as goal

pub unreachable-requires : goal.unreachable-requires
unreachable-requires c = c.requires.apart (subst₂ (λ (a b : Id). EntriesFit c.args.sides.now.left.now c.args.sides.now.right.now (Modules a b)) c.module_at-a.ensures c.module_at-b.ensures (λ k. modules (subst₂ ModuleFits (sym c.index.ensures.tree) (sym c.index-2.ensures.tree) c.in-Ok.ensures)))
