use Rattle.std.proofs.Common.{◌≡◌, ◌∙◌, None, ap, sym}
use Rattle.std.specs.Option.{option_map}
use Rattle.std.proofs.lemmas.Option.{same_Some}
use Rattle.indexmap.specs.IndexMap.{get_by_text}
use Rattle.wac_wit_scopes.specs.WitSources.{ident_text, interface_identifier, package_id}
use Rattle.wac_wit_refusals_sites.specs.Paths.{name_of_item}
use Rattle.wac_wit_refusals_worlds.proofs.exports.WorldExports.index_of.Goals as goal

pub returns-in_ok-id-in-Some : goal.returns-in_ok-id-in-Some
returns-in_ok-id-in-Some c none name named =
    let listed = get_by_text c.args.self.now.listed in
    let own = package_id c.args.led.now.scope.package.now in
    let one = same_Some _ _ (ap (option_map ident_text) c.in-Some.ensures ∙ named) in
    ap listed (sym (c.as_str.ensures.value ∙ c.in_ok-id-in-Some.ensures ∙ ap (interface_identifier own) one)) ∙ sym c.get.ensures.value ∙ sym c.copied.ensures ∙ none

pub returns-in-None : goal.returns-in-None
returns-in-None c none name named = let no : None ≡ name_of_item c.args.led.now.item.now = ap (option_map ident_text) c.in-None.ensures in absurd (cc)
