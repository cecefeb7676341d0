use Rattle.wac_wit_refusals_sites.specs.Judging.{Judges, body_syntax}
use Rattle.wac_wit_refusals_sites.specs.TypeLists.{AreTypeExprsOf}
use Rattle.wac_wit_scopes.specs.WitSources.{WitSources}
use Rattle.wac_wit_refusals_sites.proofs.judge.Judge.push_called.Given as goal

abbrev pub invariant-loop-named : goal.invariant-loop-named
invariant-loop-named l = (of : WitSources) → Judges of l.self → AreTypeExprsOf of (body_syntax l.body) l.initial.all.items → AreTypeExprsOf of (body_syntax l.body) l.all.items
