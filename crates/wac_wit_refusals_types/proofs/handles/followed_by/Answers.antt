use Rattle.wac_wit_refusals_types.proofs.HandleFacts.{used_name}
use Rattle.wac_wit_refusals_sites.proofs.TypeFacts.{if_some_then, some_fact}
use Rattle.wac_wit_refusals_types.proofs.handles.followed_by.Goals as goal

pub returns-in-Some-2 : goal.returns-in-Some-2
returns-in-Some-2 c = if_some_then _ _ c.name_inside.result c.name_inside.ensures (λ n h of knows among.
    let led = some_fact _ _ _ c.in-Some-2.is c.in_ok-led.ensures of knows in
    used_name of c.args.at.now n c.args.used.now c.in-Some-2.led c.in-Some.name.now among ((c.is_there.ensures of knows).0 c.if-not-is_there.false) c.in-Some.ensures led.known led.leads (h of knows))
