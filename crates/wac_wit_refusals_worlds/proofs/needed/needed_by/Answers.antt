use Rattle.wac_wit_refusals_worlds.proofs.NeededFacts.{needs_one}
use Rattle.wac_wit_refusals_sites.proofs.Walks.{among_at, among_none}
use Rattle.wac_wit_refusals_worlds.specs.NeededSteps.{one_of}
use Rattle.wac_wit_refusals_worlds.proofs.needed.needed_by.Goals as goal

pub loop-export-init : goal.loop-export-init
loop-export-init c = λ of judges l among. absurd (among_none _ l c.new-needed.ensures among)

pub loop-export-preserved : goal.loop-export-preserved
loop-export-preserved c = λ of judges.
    let exports = c.args.exports.now in
    let export = c.export-item.result in
    let among = among_at exports c.loop-export.export-index export c.loop-export-test.true c.export-item.is in
    c.in_ok-push_export.ensures of judges (one_of exports) (needs_one of c.args.judge.now exports export among) (c.loop-export.invariant of judges)

pub returns : goal.returns
returns c = λ of judges. c.in_ok-push_all_needs.ensures of judges (one_of c.args.exports.now) (c.loop-export.invariant of judges)
