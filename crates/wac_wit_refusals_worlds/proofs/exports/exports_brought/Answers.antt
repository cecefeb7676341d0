use Rattle.std.proofs.Common.{List, subst, sym}
use Rattle.std.proofs.lemmas.Option.{MatchOption-at_some}
use Rattle.std.proofs.lemmas.Result.{IfOk-weaker}
use Rattle.wac_wit_scopes.specs.Scopes.{scope_syntax}
use Rattle.wac_wit_syntax.specs.declared.tree.WorldItem.{WorldItem}
use Rattle.wac_wit_syntax.specs.declared.tree.WorldItem.TheVariants as world_item
use Rattle.wac_wit_refusals_worlds.specs.NeededTwice.{GivesExport, HasExport, by_its_include}
use Rattle.wac_wit_refusals_worlds.specs.declared.exports.PlacedExport.{PlacedExport}
use Rattle.wac_wit_refusals_sites.proofs.TypeFacts.{none_among}
use Rattle.wac_wit_refusals_worlds.proofs.exports.exports_brought.Goals as goal

pub returns-in-Some : goal.returns-in-Some
returns-in-Some c = IfOk-weaker c.exports_within.result _ _ (λ xs all of knows there x among.
    let world = c.in-Some.world in
    let scope = scope_syntax world.scope in
    let to = MatchOption-at_some _ _ world c.in-Some.is c.in_ok-world.ensures of knows in
    by_its_include c.args.include.now scope (scope_syntax x.scope) to.decl x.item.now there to.leads
    (subst (λ (l : List WorldItem). HasExport of scope l (scope_syntax x.scope) x.item.now) (sym to.items) (all of knows x among))) c.exports_within.ensures

pub returns-in-None : goal.returns-in-None
returns-in-None c of knows there = none_among (λ (x : PlacedExport). GivesExport of (scope_syntax c.args.scope.now) (world_item.Include c.args.include.now) (scope_syntax x.scope) x.item.now) c.new.result.items c.new.ensures.items
