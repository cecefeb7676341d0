use Rattle.wac_wit_refusals_sites.specs.Paths.{HasPathOf}
use Rattle.wac_wit_refusals_sites.specs.declared.paths.SoughtPath.{SoughtPath}
use Rattle.wac_wit_refusals_sites.proofs.Walks.{each_push}
use Rattle.wac_wit_refusals_sites.proofs.paths.push.Goals as goal

pub returns : goal.returns
returns c = λ of t has all. each_push (λ (p : SoughtPath). HasPathOf of t p.path.now p.seeks) c.args.paths.now.items _ _ c.in_ok-push.ensures.items all has
