use Rattle.wac_wit_refusals_sites.proofs.Walks.{among_at}
use Rattle.wac_wit_refusals_worlds.proofs.needed.push_needs_of_imports.Goals as goal

pub loop-led-init : goal.loop-led-init
loop-led-init c = λ of judges found exports all. all

pub loop-led-preserved : goal.loop-led-preserved
loop-led-preserved c = λ of judges found exports all.
    c.in_ok-push_needs_of_import.ensures of judges (found c.led-item.result (among_at c.args.found.now c.loop-led.led-index c.led-item.result c.loop-led-test.true c.led-item.is)) exports (c.loop-led.invariant of judges found exports all)

pub returns : goal.returns
returns c = c.loop-led.invariant
