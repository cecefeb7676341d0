use Rattle.wac_wit_scopes.specs.WitSources.{WitSources}
use Rattle.wac_wit_refusals_sites.specs.Judging.{AreKnownBodies, Judges}
use Rattle.wac_wit_refusals_sites.proofs.judge.Judge.bodies_in.Given as goal

abbrev pub invariant-loop-scope : goal.invariant-loop-scope
invariant-loop-scope l = (of : WitSources) → Judges of l.self → AreKnownBodies of l.file l.bodies.items
