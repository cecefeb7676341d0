use Rattle.std.proofs.lemmas.Result.{on_ok_weaker}
use Rattle.wac_wit_refusals_worlds.proofs.needed.push_used.Goals as goal

pub returns-in-Use : goal.returns-in-Use
returns-in-Use c = on_ok_weaker c.push_led.result (λ pushes of judges n needs. pushes of judges n (needs c.in-Use.it c.in-Use.is ((c.is_there.ensures of judges).0 c.if-is_there.true))) c.push_led.ensures
