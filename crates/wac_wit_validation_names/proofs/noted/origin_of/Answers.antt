use Rattle.std.proofs.Common.{sym}
use Rattle.wac_wit_validation_names.proofs.NotedFacts.{got, got_nothing, origin_none, origin_some}
use Rattle.wac_wit_validation_names.proofs.noted.origin_of.Goals as goal

pub returns-in-Some : goal.returns-in-Some
returns-in-Some c = sym (origin_some c.args.uses.now.entries c.args.name.now c.in-Some.used.now (got c.get.result c.in-Some.used _ c.get.ensures.value c.in-Some.is))

pub returns-in-None : goal.returns-in-None
returns-in-None c = sym (origin_none c.args.uses.now.entries c.args.name.now (got_nothing c.get.result _ c.get.ensures.value c.in-None.is))
