use Rattle.std.proofs.Common.{List, subst}
use Rattle.std.proofs.lemmas.Option.{MatchOption-at_some}
use Rattle.indexmap.specs.IndexMap.{get_by_text}
use Rattle.wac_wit_refusals_worlds.specs.NeededSteps.{ListsWorlds}
use Rattle.wac_wit_refusals_worlds.specs.declared.worlds.PlacedWorld.{PlacedWorld}
use Rattle.wac_wit_refusals_worlds.proofs.exports.exports_of.Goals as goal

pub returns-clause-of : goal.returns-clause-of
returns-clause-of c = λ of judges. record {
  worlds = MatchOption-at_some _ _ c.in-Some.worlds c.in-Some.is c.in_ok-worlds.ensures of judges;
  listed = subst (λ (ps : List PlacedWorld). ListsWorlds of (get_by_text c.list_worlds.new.listed) ps) c.deref.ensures.value (c.in_ok-list_worlds.ensures c.if-not-branch.false of judges);
}
