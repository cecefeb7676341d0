use Rattle.wac_aggregator.specs.HandedIn.{called, handed_in}
use Rattle.wac_aggregator.proofs.Listing.{Contains-at, called_at}
use Rattle.wac_script_session.proofs.imports.push_served.Goals as goal

pub fits-requires-clause-call : goal.fits-requires-clause-call
fits-requires-clause-call c =
    rw c.types.ensures
    (c.requires.each (called c.index-calls-at-in-Some.result)
    (Contains-at (handed_in c.args.calls.now) c.loop-at.at-counter (called c.index-calls-at-in-Some.result) (called_at c.args.calls.now c.loop-at.at-counter c.index-calls-at-in-Some.result c.loop-at-test.true c.index-calls-at-in-Some.is)))
