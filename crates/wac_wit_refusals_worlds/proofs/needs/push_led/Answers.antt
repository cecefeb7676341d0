use Rattle.std.proofs.lemmas.Option.{MatchOption-at_some}
use Rattle.std.proofs.lemmas.Result.{on_ok_weaker}
use Rattle.wac_wit_refusals_worlds.proofs.needs.push_led.Goals as goal

pub returns-in-Some : goal.returns-in-Some
returns-in-Some c = on_ok_weaker c.push.result (λ pushes of judges n led.
    let to = MatchOption-at_some _ _ c.in-Some.led c.in-Some.is c.in_ok-led.ensures of judges in
    pushes of c.args.judge.now n (led c.in-Some.led to.known to.placed to.leads)) c.push.ensures
