use Rattle.std.proofs.lemmas.Option.{MatchOption-at_some}
use Rattle.wac_wit_scopes.specs.Scopes.{scope_syntax}
use Rattle.wac_wit_refusals_worlds.specs.BroughtSteps.{IsIncludedWorld}
use Rattle.wac_wit_refusals_sites.proofs.TypeFacts.{kept_push}
use Rattle.wac_wit_refusals_worlds.proofs.worlds.push_included.Goals as goal

pub returns-in_ok-push : goal.returns-in_ok-push
returns-in_ok-push c of knows is at old = kept_push (IsIncludedWorld of (scope_syntax c.args.scope.now) is) c.args.worlds.now.items c.push.new.self.items c.in-Some.world c.in_ok-push.ensures.items old
    (MatchOption-at_some _ _ c.in-Some.world c.in-Some.is c.in_ok-world.ensures of knows is at)
