use Rattle.wac_wit_refusals_sites.specs.Judging.{Judges, body_syntax}
use Rattle.wac_wit_refusals_sites.specs.TypeLists.{AreSignaturesOf}
use Rattle.wac_wit_scopes.specs.WitSources.{WitSources}
use Rattle.wac_wit_refusals_sites.proofs.judge.Judge.push_resource_signatures.Given as goal

abbrev pub invariant-loop-placed : goal.invariant-loop-placed
invariant-loop-placed l = (of : WitSources) → Judges of l.self → AreSignaturesOf of (body_syntax l.body) l.initial.all.items → AreSignaturesOf of (body_syntax l.body) l.all.items
