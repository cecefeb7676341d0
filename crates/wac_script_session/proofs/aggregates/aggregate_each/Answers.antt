use Rattle.std.proofs.Common.{◌∙◌}
use Rattle.wac_aggregator.specs.HandedIn.{called, handed_in}
use Rattle.wac_aggregator.proofs.Listing.{Contains-at, called_at}
use Rattle.wac_script_session.proofs.aggregates.aggregate_each.Goals as goal

pub loop-at-init : goal.loop-at-init
loop-at-init c = record {
  number = c.new-aggregator.ensures.number;
  truly = λ d m. c.new-aggregator.ensures.remembers_nothing d.types;
}

pub aggregate_one-requires-clause-source : goal.aggregate_one-requires-clause-source
aggregate_one-requires-clause-source c =
    let call = called c.index-calls-at.result in
    let among = Contains-at (handed_in c.args.calls.now) c.loop-at.at call (called_at c.args.calls.now c.loop-at.at c.index-calls-at.result c.loop-at-test.true c.index-calls-at.is) in
    (c.requires.each call among).stands

pub aggregate_one-requires-clause-remembered : goal.aggregate_one-requires-clause-remembered
aggregate_one-requires-clause-remembered c =
    let call = called c.index-calls-at.result in
    let among = Contains-at (handed_in c.args.calls.now) c.loop-at.at call (called_at c.args.calls.now c.loop-at.at c.index-calls-at.result c.loop-at-test.true c.index-calls-at.is) in
    c.loop-at.invariant.truly call among

pub aggregate_one-requires-clause-apart : goal.aggregate_one-requires-clause-apart
aggregate_one-requires-clause-apart c =
    let call = called c.index-calls-at.result in
    let among = Contains-at (handed_in c.args.calls.now) c.loop-at.at call (called_at c.args.calls.now c.loop-at.at c.index-calls-at.result c.loop-at-test.true c.index-calls-at.is) in
    λ same. (c.requires.each call among).apart (same ∙ c.loop-at.invariant.number)

pub loop-at-preserved : goal.loop-at-preserved
loop-at-preserved c =
    let call = called c.index-calls-at.result in
    let among = Contains-at (handed_in c.args.calls.now) c.loop-at.at call (called_at c.args.calls.now c.loop-at.at c.index-calls-at.result c.loop-at-test.true c.index-calls-at.is) in
    record {
      number = c.in-Ok.ensures.number ∙ c.loop-at.invariant.number;
      truly = λ d m. c.in-Ok.ensures.truly d.types (λ same. c.requires.one d call m among same) (c.loop-at.invariant.truly d m);
    }
