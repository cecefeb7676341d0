use Rattle.std.proofs.Common.{map}
use Rattle.std.specs.Map.Iter.{deref_pair}
use Rattle.wac_component.specs.Content.{named}
use Rattle.wac_aggregator_memo.specs.EntryOrder.{HasOwn}
use Rattle.wac_component.specs.Key.{Each, value_keys, named_keys}
use Rattle.wac_aggregator_memo.specs.Memo.{memo_of}
use Rattle.wac_aggregator_taking.proofs.ready.has_func_parts.Given as goal

abbrev pub invariant-loop-ty : goal.invariant-loop-ty
invariant-loop-ty l = Each (HasOwn (memo_of l.taken)) (named_keys value_keys (named (λ v. v) (map deref_pair l.yielded)))
