use Rattle.wac_wit_scopes.specs.WitSources.{WitSources}
use Rattle.wac_wit_syntax.specs.declared.tree.TopItem.{TopItem}
use Rattle.wac_wit_refusals_sites.specs.Judging.{Judges}
use Rattle.wac_wit_refusals_sites.specs.Leading.{ArePathsOf}
use Rattle.wac_wit_refusals_sites.specs.Paths.{HoldsBody}
use Rattle.wac_wit_refusals_sites.specs.Sites.{interface_items}
use Rattle.wac_wit_refusals_sites.proofs.judge.Judge.push_uses.Given as goal

abbrev pub invariant-loop-item : goal.invariant-loop-item
invariant-loop-item l = (of : WitSources) → Judges of l.self → (t : TopItem) → HoldsBody of t (interface_items l.items) → ArePathsOf of t l.initial.paths.items → ArePathsOf of t l.paths.items
