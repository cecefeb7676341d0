use Rattle.wac_wit_refusals_types.specs.BorrowSteps.{AddsCarriedAt}
use Rattle.wac_wit_refusals_sites.specs.Judging.{Judges}
use Rattle.wac_wit_scopes.specs.WitSources.{WitSources}
use Rattle.wac_wit_refusals_types.proofs.carried.push_carried.Given as goal

abbrev pub invariant-loop-written : goal.invariant-loop-written
invariant-loop-written l = (of : WitSources) → Judges of l.judge → AddsCarriedAt of l.wanted l.placed l.span l.initial.followed.found.items l.followed.found.items
