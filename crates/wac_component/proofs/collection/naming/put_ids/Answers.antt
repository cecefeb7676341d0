use Rattle.std.proofs.Common.{length, refl}
use Rattle.std.proofs.lemmas.Option.{slice_get_read}
use Rattle.wac_component.proofs.Reached.{Puts-inserted, Puts-next_id}
use Rattle.wac_component.proofs.collection.naming.put_ids.Goals as goal

pub loop-id-preserved : goal.loop-id-preserved
loop-id-preserved c =
    let at = slice_get_read c.args.ids.now (length c.args.ids.now) c.loop-id.id-index c.id-item.result refl c.loop-id-test.true c.id-item.is in
    Puts-next_id c.args.ids.now c.loop-id.id-index c.id-item.result at c.loop-id.invariant (rw c.in_ok-insert.ensures.keys (Puts-inserted c.loop-id.reached.keys c.id-item.result))
