use Rattle.std.proofs.Common.{sym}
use Rattle.wac_wit_refusals_sites.proofs.judge.Judge.push_bodies.Goals as goal

pub loop-item-init : goal.loop-item-init
loop-item-init c = λ of judges known old. old

pub loop-item-preserved : goal.loop-item-preserved
loop-item-preserved c = λ of judges known old. c.in_ok-push_body.ensures of judges known (c.loop-item.item-index, c.loop-item-test.true, sym c.item-item.is) (c.loop-item.invariant of judges known old)

pub returns : goal.returns
returns c = c.loop-item.invariant
