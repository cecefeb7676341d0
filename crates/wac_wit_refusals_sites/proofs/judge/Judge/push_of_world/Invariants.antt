use Rattle.wac_wit_scopes.specs.WitSources.{IsEnabled, WitSources}
use Rattle.wac_wit_syntax.specs.declared.tree.TopItem.TheVariants as top
use Rattle.wac_wit_refusals_sites.specs.Judging.{Judges}
use Rattle.wac_wit_refusals_sites.specs.Leading.{ArePathsOf}
use Rattle.wac_wit_refusals_sites.proofs.judge.Judge.push_of_world.Given as goal

abbrev pub invariant-loop-item : goal.invariant-loop-item
invariant-loop-item l = (of : WitSources) → Judges of l.self → IsEnabled of l.decl.gates → ArePathsOf of (top.World l.decl) l.initial.paths.items → ArePathsOf of (top.World l.decl) l.paths.items
