use Rattle.std.proofs.lemmas.List.Sorted.{IsPermutation-map}
use Rattle.wac_types.specs.HandedIn.{called}
use Rattle.wac_composition.proofs.orders.push_reversed.Goals as goal

pub aggregate_in_two_orders-given-requires-clause-permuted : goal.aggregate_in_two_orders-given-requires-clause-permuted
aggregate_in_two_orders-given-requires-clause-permuted c =
    rw c.deref.ensures.value (IsPermutation-map called c.args.calls.now c.in_ok-reversed.reversed.items c.in_ok-reversed.ensures)
