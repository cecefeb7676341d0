use Rattle.std.proofs.Common.{◌∙◌}
use Rattle.std.proofs.lemmas.List.Elements.{Contains-append_left, Contains-push}
use Rattle.wac_types.specs.HandedIn.{called, handed_in}
use Rattle.wac_composition.proofs.OtherOrders.{served_on}
use Rattle.wac_composition.proofs.orders.aggregate_all_and_one.Goals as goal

pub aggregate_all-requires-clause-source : goal.aggregate_all-requires-clause-source
aggregate_all-requires-clause-source c = λ d m. c.requires.source d (Contains-append_left (handed_in c.args.calls.now) _ d m)

pub aggregate_all-requires-clause-one : goal.aggregate_all-requires-clause-one
aggregate_all-requires-clause-one c = λ d e m n. c.requires.one d e (Contains-append_left (handed_in c.args.calls.now) _ d m) (Contains-append_left (handed_in c.args.calls.now) _ e n)

pub aggregate_all-requires-clause-apart : goal.aggregate_all-requires-clause-apart
aggregate_all-requires-clause-apart c = λ d m. c.requires.apart d (Contains-append_left (handed_in c.args.calls.now) _ d m)

pub aggregate-requires-clause-source : goal.aggregate-requires-clause-source
aggregate-requires-clause-source c = c.requires.source (called c.args.last.now) (Contains-push (handed_in c.args.calls.now) (called c.args.last.now))

pub aggregate-requires-clause-apart : goal.aggregate-requires-clause-apart
aggregate-requires-clause-apart c = λ same. c.requires.apart (called c.args.last.now) (Contains-push (handed_in c.args.calls.now) (called c.args.last.now)) (same ∙ c.in-Ok.ensures.number)

pub aggregate-requires-clause-remembered : goal.aggregate-requires-clause-remembered
aggregate-requires-clause-remembered c =
    let calls = handed_in c.args.calls.now in
    let last = called c.args.last.now in
    c.in-Ok.ensures.truly last.types (λ d m same. c.requires.one last d (Contains-push calls last) (Contains-append_left calls _ d m) same)

pub returns-in-Ok : goal.returns-in-Ok
returns-in-Ok c = served_on c.order_is_transitive.ensures (handed_in c.args.calls.now) (called c.args.last.now) c.in-Ok.merged c.in-Ok.ensures.aggregated c.aggregate.result c.aggregate.ensures.step
