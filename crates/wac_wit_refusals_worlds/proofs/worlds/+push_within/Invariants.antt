use Rattle.wac_wit_scopes.specs.WitSources.{WitSources}
use Rattle.wac_wit_refusals_sites.specs.Judging.{Judges}
use Rattle.wac_wit_refusals_worlds.proofs.WorldFacts.{PutsFirst}
use Rattle.wac_wit_refusals_worlds.proofs.worlds.+push_within.Given as goal

-- how deep worlds are looked at gets less from one call to the next
abbrev pub decreases-push_within : goal.decreases-push_within
decreases-push_within l = l.depth

abbrev pub invariant-loop-item : goal.invariant-loop-item
invariant-loop-item l = (of : WitSources) → Judges of l.judge → PutsFirst of l.world l.item-index l.initial.worlds.items l.worlds.items
