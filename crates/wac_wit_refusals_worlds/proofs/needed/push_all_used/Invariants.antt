use Rattle.wac_wit_scopes.specs.Scopes.{scope_syntax}
use Rattle.wac_wit_scopes.specs.WitSources.{WitSources}
use Rattle.wac_wit_refusals_sites.specs.Judging.{Judges}
use Rattle.wac_wit_refusals_worlds.specs.NeededSteps.{AddsNeeded, Needing, NeedsUses}
use Rattle.wac_wit_refusals_worlds.proofs.needed.push_all_used.Given as goal

abbrev pub invariant-loop-item : goal.invariant-loop-item
invariant-loop-item l = (of : WitSources) → Judges of l.judge → (n : Needing) → NeedsUses of l.judge n (scope_syntax l.scope) l.items → AddsNeeded of l.judge n l.initial.needed l.needed
