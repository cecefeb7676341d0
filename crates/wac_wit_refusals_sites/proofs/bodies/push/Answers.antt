use Rattle.std.proofs.Common.{refl}
use Rattle.wac_wit_refusals_sites.specs.Judging.{IsKnownBody}
use Rattle.wac_wit_refusals_sites.proofs.Pushed.{each_pushed}
use Rattle.wac_wit_refusals_sites.proofs.bodies.push.Goals as goal

pub returns : goal.returns
returns c = λ of known has old. each_pushed (IsKnownBody of c.args.scope.now.file) c.args.bodies.now.items c.push.new.self.items (record { scope = c.args.scope.now; body = c.args.body }) c.in_ok-push.ensures.items old (record { scope = known; in_file = refl; has = has })
