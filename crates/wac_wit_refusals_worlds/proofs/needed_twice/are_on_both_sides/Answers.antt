use Rattle.wac_wit_refusals_sites.proofs.Walks.{among_at}
use Rattle.wac_wit_refusals_worlds.proofs.needed_twice.are_on_both_sides.Goals as goal

pub returns-then-branch : goal.returns-then-branch
returns-then-branch c is of judges =
    let led = c.led-item.result in
    (led, among_at c.args.found.now c.loop-led.led-index led c.loop-led-test.true c.led-item.is, c.in_ok-is_on_both_sides.ensures c.if-branch.true of judges)
