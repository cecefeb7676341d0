use Rattle.wac_wit_refusals_sites.specs.Judging.{Judges}
use Rattle.wac_wit_refusals_sites.specs.Sites.{world_items}
use Rattle.wac_wit_refusals_sites.specs.TypeLists.{AreSignaturesOf}
use Rattle.wac_wit_scopes.specs.WitSources.{WitSources}
use Rattle.wac_wit_refusals_sites.proofs.judge.Judge.push_extern_signatures.Given as goal

abbrev pub invariant-loop-item : goal.invariant-loop-item
invariant-loop-item l = (of : WitSources) → Judges of l.self → AreSignaturesOf of (world_items l.items) l.initial.all.items → AreSignaturesOf of (world_items l.items) l.all.items
