use Rattle.wac_wit_scopes.specs.WitSources.{WitSources}
use Rattle.wac_wit_syntax.specs.declared.tree.TopItem.{TopItem}
use Rattle.wac_wit_refusals_sites.specs.Leading.{AreKnownPaths, ArePathsOf, IsKnownItem}
use Rattle.wac_wit_refusals_sites.proofs.paths.place_all.Given as goal

abbrev pub invariant-loop-path : goal.invariant-loop-path
invariant-loop-path l = (of : WitSources) (t : TopItem) → IsKnownItem of l.scope t → ArePathsOf of t l.of_item → AreKnownPaths of l.scope.file l.initial.paths.items → AreKnownPaths of l.scope.file l.paths.items
