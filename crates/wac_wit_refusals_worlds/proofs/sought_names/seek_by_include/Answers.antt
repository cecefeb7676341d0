use Rattle.std.proofs.lemmas.Option.{MatchOption-at_some}
use Rattle.wac_wit_scopes.specs.Scopes.{scope_syntax}
use Rattle.wac_wit_scopes.specs.WitSources.{ident_text}
use Rattle.wac_wit_refusals_worlds.proofs.SoughtFacts.{include_lacks}
use Rattle.wac_wit_refusals_worlds.proofs.sought_names.seek_by_include.Goals as goal

pub returns-in_ok-push_renamed-in-Some : goal.returns-in_ok-push_renamed-in-Some
returns-in_ok-push_renamed-in-Some c _ of knows all =
    let world = c.in-Some.world in
    let to = MatchOption-at_some _ _ world c.in-Some.is c.in_ok-world.ensures of knows in
    let before = c.in_ok-push_renamed-in-Some.ensures of all in
    (before.0, include_lacks of (scope_syntax c.args.from.now.world.scope) c.args.item.now world c.deref.result.now (ident_text c.args.from.now.name.now) to c.deref.ensures.value before.1)
