use Rattle.wac_wit_refusals_types.specs.BorrowSteps.{LeadBack, SiteHas}
use Rattle.wac_wit_refusals_sites.specs.Judging.{Judges}
use Rattle.wac_wit_scopes.specs.WitSources.{WitSources}
use Rattle.wac_wit_refusals_types.proofs.wanted.leads_to.Given as goal

abbrev pub invariant-loop-index : goal.invariant-loop-index
invariant-loop-index l = (of : WitSources) → Judges of l.judge → LeadBack (SiteHas of l.wanted) l.initial.followed.found.items l.followed.found.items
