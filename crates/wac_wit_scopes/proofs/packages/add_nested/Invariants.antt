use Rattle.std.proofs.Common.{take}
use Rattle.std.specs.Prelude.{All}
use Rattle.indexmap.specs.IndexMap.{get_by_text}
use Rattle.wac_wit_syntax.specs.declared.tree.PackageName.{PackageName}
use Rattle.wac_wit_scopes.specs.Naming.{IsKnownName}
use Rattle.wac_wit_scopes.proofs.packages.add_nested.Given as goal

abbrev pub invariant-loop-nested : goal.invariant-loop-nested
invariant-loop-nested l = ((n : PackageName) → IsKnownName (get_by_text l.initial.versions) n → IsKnownName (get_by_text l.versions) n) × All (λ p. IsKnownName (get_by_text l.versions) p.name) (take l.nested-index l.packages)
