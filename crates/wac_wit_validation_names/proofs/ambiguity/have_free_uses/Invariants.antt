use Rattle.indexmap.specs.IndexMap.{get_by_text}
use Rattle.wac_wit_validation_names.proofs.AmbiguityFacts.{EachBelow, FreesScope}
use Rattle.wac_wit_validation_names.proofs.ambiguity.have_free_uses.Given as goal

abbrev pub invariant-loop-index : goal.invariant-loop-index
invariant-loop-index l = EachBelow l.scopes (FreesScope (get_by_text l.noted)) l.index
