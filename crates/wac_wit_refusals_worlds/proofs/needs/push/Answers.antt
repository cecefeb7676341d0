use Rattle.wac_wit_refusals_sites.proofs.Walks.{each_push}
use Rattle.wac_wit_refusals_worlds.specs.NeededSteps.{IsFoundNeed}
use Rattle.wac_wit_refusals_worlds.proofs.needs.push.Goals as goal

pub returns-in_ok-push : goal.returns-in_ok-push
returns-in_ok-push c = λ of j n is all. each_push (IsFoundNeed of j n) c.args.needed.now.found.items _ c.args.led c.in_ok-push.ensures.items all is
