use Rattle.std.proofs.lemmas.Result.{IfOk-weaker}
use Rattle.std.proofs.lemmas.Option.{MatchOption-at_some}
use Rattle.indexmap.specs.IndexMap.{get_by_text}
use Rattle.wac_wit_refusals_worlds.proofs.NeededFacts.{KeepsListed-same}
use Rattle.wac_wit_scopes.specs.Scopes.{scope_syntax}
use Rattle.wac_wit_refusals_worlds.proofs.exports.list_path.Goals as goal

pub returns-in-Some-clause-lists : goal.returns-in-Some-clause-lists
returns-in-Some-clause-lists c = IfOk-weaker c.list.result _ _ (λ b told is of judges.
    let to = MatchOption-at_some _ _ c.in-Some.led c.in-Some.is c.in_ok-led.ensures of judges in
    record { to = scope_syntax c.in-Some.led.scope; item = c.in-Some.led.item.now; leads = to.leads; has = told is }) c.list.ensures.lists

pub returns-in-None-clause-keeps : goal.returns-in-None-clause-keeps
returns-in-None-clause-keeps c = KeepsListed-same (get_by_text c.args.listed.now)
