use Rattle.std.proofs.lemmas.Result.{on_ok_weaker}
use Rattle.wac_wit_refusals_worlds.proofs.needs.push_sought.Goals as goal

pub returns-then-seeks_member : goal.returns-then-seeks_member
returns-then-seeks_member c = on_ok_weaker c.push_led.result (λ pushes of judges n has next.
    pushes of judges n (λ l known placed leads. next l known placed (record { path = c.args.path.now.path.now; seeks = c.args.path.now.seeks; has = has; wanted = c.seeks_member.ensures c.if-seeks_member.true; leads = leads }))) c.push_led.ensures
