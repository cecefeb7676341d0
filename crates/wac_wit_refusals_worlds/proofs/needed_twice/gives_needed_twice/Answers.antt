use Rattle.std.proofs.Common.{Contains, List, subst}
use Rattle.std.proofs.lemmas.Option.{MatchOption-at_some}
use Rattle.std.proofs.lemmas.Result.{IfOk-weaker}
use Rattle.wac_wit_refusals_worlds.specs.NeededSteps.{NeedsFoundTwice}
use Rattle.wac_wit_refusals_worlds.specs.declared.exports.PlacedExport.{PlacedExport}
use Rattle.wac_wit_refusals_worlds.specs.declared.worlds.PlacedWorld.{PlacedWorld}
use Rattle.wac_wit_refusals_worlds.proofs.needed_twice.gives_needed_twice.Goals as goal

pub returns-in-Some : goal.returns-in-Some
returns-in-Some c = IfOk-weaker c.needs_some_twice.result _ _ (λ b told is of knows.
    let e = c.in-Some.exports in
    let exports = MatchOption-at_some _ _ e c.in-Some.is c.in_ok-exports.ensures.of of knows in
    let world = MatchOption-at_some _ _ e c.in-Some.is c.in_ok-exports.ensures.world in
    let some = told is of knows exports in
    record {
      export = some.export;
      gives = c.in_ok-given.ensures of knows some.export (subst (λ (xs : List PlacedExport). Contains xs some.export) c.deref.ensures.value some.among);
      twice = subst (λ (w : PlacedWorld). NeedsFoundTwice of w some.export) world some.twice;
    }) c.needs_some_twice.ensures
