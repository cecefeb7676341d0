use Rattle.std.proofs.lemmas.Result.{IfOk-weaker}
use Rattle.wac_component.specs.Key.{Stands, item_keys}
use Rattle.wac_component.proofs.Extended.{AllStand-Extends}
use Rattle.wac_component.proofs.Keys.{Each-left, Each-right}
use Rattle.wac_merge.proofs.StepLemmas.{meet_told}
use Rattle.wac_merge.proofs.meets.Meets.meet.Goals as goal

pub returns-clause-meet : goal.returns-clause-meet
returns-clause-meet c =
    let w = c.requires.known in
    let stand = AllStand-Extends w.0 c.args.types.now w.3.ran.only.extends in
    IfOk-weaker c.tell.result _ _
    (meet_told c.args.types.now c.tell.new.types c.tell.new.memo c.args.a c.args.b c.tell.ensures.grows
    (stand (item_keys c.args.a) (Each-left (Stands w.0) (item_keys c.args.a) (item_keys c.args.b) w.2))
    (stand (item_keys c.args.b) (Each-right (Stands w.0) (item_keys c.args.a) (item_keys c.args.b) w.2)))
    c.tell.ensures.told
