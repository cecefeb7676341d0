use Rattle.std.proofs.lemmas.List.Sorted.{Contains-permutation, IsPermutation-sym}
use Rattle.wac_types.specs.HandedIn.{handed_in}
use Rattle.wac_composition.proofs.OtherOrders.{answered_alike}
use Rattle.wac_composition.proofs.orders.aggregate_in_two_orders.Goals as goal

pub aggregate_all-other-requires-clause-source : goal.aggregate_all-other-requires-clause-source
aggregate_all-other-requires-clause-source c = λ d m.
    let calls = handed_in c.args.calls.now in
    let others = handed_in c.args.others.now in
    c.requires.calls.source d (Contains-permutation others calls d (IsPermutation-sym calls others c.requires.permuted) m)

pub aggregate_all-other-requires-clause-one : goal.aggregate_all-other-requires-clause-one
aggregate_all-other-requires-clause-one c = λ d e m n.
    let calls = handed_in c.args.calls.now in
    let others = handed_in c.args.others.now in
    let back = IsPermutation-sym calls others c.requires.permuted in
    c.requires.calls.one d e (Contains-permutation others calls d back m) (Contains-permutation others calls e back n)

pub aggregate_all-other-requires-clause-apart : goal.aggregate_all-other-requires-clause-apart
aggregate_all-other-requires-clause-apart c = λ d m.
    let calls = handed_in c.args.calls.now in
    let others = handed_in c.args.others.now in
    c.requires.calls.apart d (Contains-permutation others calls d (IsPermutation-sym calls others c.requires.permuted) m)

pub returns : goal.returns
returns c = λ family. answered_alike c.imports_are_greatest_bounds.ensures (handed_in c.args.calls.now) (handed_in c.args.others.now) c.requires.permuted family c.aggregate_all-given.result c.aggregate_all-other.result c.aggregate_all-given.ensures.wit c.aggregate_all-other.ensures.wit
