use Rattle.wac_wit_scopes.specs.Scopes.{IsKnownScope}
use Rattle.wac_wit_scopes.specs.WitSources.{WitSources}
use Rattle.wac_wit_refusals_sites.specs.Judging.{AreKnownBodies, HasWorldIn, Judges}
use Rattle.wac_wit_refusals_sites.proofs.judge.Judge.push_world.Given as goal

abbrev pub invariant-loop-item : goal.invariant-loop-item
invariant-loop-item l = (of : WitSources) → Judges of l.self → IsKnownScope of l.scope → HasWorldIn of l.scope l.decl → AreKnownBodies of l.scope.file l.initial.bodies.items → AreKnownBodies of l.scope.file l.bodies.items
