use Rattle.wac_wit_refusals_sites.specs.Judging.{Judges, body_syntax}
use Rattle.wac_wit_refusals_sites.specs.TypeLists.{AreMethodsOf}
use Rattle.wac_wit_scopes.specs.WitSources.{WitSources}
use Rattle.wac_wit_refusals_sites.proofs.judge.Judge.methods_of.Given as goal

abbrev pub invariant-loop-placed : goal.invariant-loop-placed
invariant-loop-placed l = (of : WitSources) → Judges of l.self → AreMethodsOf of (body_syntax l.body) l.all.items
