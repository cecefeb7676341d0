use Rattle.std.proofs.Common.{refl}
use Rattle.wac_wit_refusals_sites.specs.Leading.{IsKnownPath}
use Rattle.wac_wit_refusals_sites.proofs.Walks.{each_push}
use Rattle.wac_wit_refusals_sites.proofs.paths.place.Goals as goal

pub returns : goal.returns
returns c = λ of t item has all. each_push (IsKnownPath of c.args.scope.now.file) c.args.paths.now.items _ _ c.in_ok-push.ensures.items all (record { scope = item.known; in_file = refl; item = t; among = item.among; has = has })
