use Rattle.std.proofs.Common.{◌∙◌, ap, sym}
use Rattle.std.specs.Option.{option_map}
use Rattle.indexmap.specs.IndexMap.{get_by_text}
use Rattle.wac_wit_refusals_worlds.proofs.NeededFacts.{KeepsListed-same, listed_at}
use Rattle.wac_wit_scopes.specs.Scopes.{scope_syntax}
use Rattle.wac_wit_scopes.specs.WitSources.{ident_text}
use Rattle.wac_wit_refusals_worlds.proofs.exports.list.Goals as goal

pub returns-in_ok-put-in-Some-clause-lists : goal.returns-in_ok-put-in-Some-clause-lists
returns-in_ok-put-in-Some-clause-lists c = λ is.
    let after = get_by_text c.put.new.listed in
    let led = c.args.led.now in
    let name = ident_text c.in-Some.name.now in
    listed_at after (scope_syntax led.scope).package led.item.now name c.args.index (sym (ap (option_map ident_text) c.in-Some.ensures)) (ap after (sym c.in_ok-id-in-Some.ensures) ∙ c.in_ok-put-in-Some.ensures.lists)

pub returns-in-None-clause-keeps : goal.returns-in-None-clause-keeps
returns-in-None-clause-keeps c = KeepsListed-same (get_by_text c.args.listed.now)
