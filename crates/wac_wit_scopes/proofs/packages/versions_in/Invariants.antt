use Rattle.std.proofs.Common.{take}
use Rattle.std.specs.Prelude.{All}
use Rattle.indexmap.specs.IndexMap.{get_by_text}
use Rattle.wac_wit_scopes.specs.Naming.{KnowsNamesOf}
use Rattle.wac_wit_scopes.proofs.packages.versions_in.Given as goal

abbrev pub invariant-loop-document : goal.invariant-loop-document
invariant-loop-document l = All (KnowsNamesOf (get_by_text l.versions)) (take l.document-index l.documents)
