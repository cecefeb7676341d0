use Rattle.wac_wit_refusals.specs.Trees.{wit_sources}
use Rattle.wac_wit_refusals.proofs.NamingFacts.{NamelessBelow}
use Rattle.wac_wit_refusals.proofs.packages.is_group_nameless.Given as goal

abbrev pub invariant-loop-index : goal.invariant-loop-index
invariant-loop-index l = NamelessBelow (wit_sources l.sources) l.group l.index
