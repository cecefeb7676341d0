use Rattle.std.proofs.Common.{◌≡◌, map}
use Rattle.std.specs.Map.Iter.{deref_pair}
use Rattle.wac_component.specs.Content.{named}
use Rattle.wac_merge.specs.Items.{extern_list}
use Rattle.wac_aggregator_taking.specs.Growing.{with_put}
use Rattle.wac_aggregator_taking.proofs.growing.put_externs.Given as goal

abbrev pub invariant-loop-name : goal.invariant-loop-name
invariant-loop-name l = extern_list l.externs ≡ with_put (extern_list l.initial.externs) (named (λ k. k) (map deref_pair l.yielded))
