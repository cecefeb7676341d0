use Rattle.wac_wit_refusals_sites.specs.Judging.{Judges, body_syntax}
use Rattle.wac_wit_refusals_sites.specs.TypeLists.{AreThere}
use Rattle.wac_wit_scopes.specs.WitSources.{WitSources}
use Rattle.wac_wit_refusals_sites.proofs.judge.Judge.types_there.Given as goal

abbrev pub invariant-loop-placed : goal.invariant-loop-placed
invariant-loop-placed l = (of : WitSources) → Judges of l.self → AreThere of (body_syntax l.body) l.types.items
