use Rattle.std.proofs.Common.{◌≡◌, ◌++◌, map, Some}
use Rattle.std.specs.Map.Iter.{deref_pair}
use Rattle.wac_component.specs.Content.{named}
use Rattle.wac_component.specs.Key.{AllStand}
use Rattle.wac_merge.specs.Built.{AreBuilt}
use Rattle.wac_merge.specs.Items.{extern_keys, extern_list}
use Rattle.wac_merge.specs.Memo.{made_of, IsTrueMemo}
use Rattle.wac_merge.specs.Runs.{FromBuilt}
use Rattle.wac_merge.specs.Told.{AreFirstBound, HasFirstNames}
use Rattle.wac_merge.proofs.externs.bound_first.Given as goal

abbrev pub invariant-loop-name : goal.invariant-loop-name
invariant-loop-name l = record {
  memo : IsTrueMemo l.types l.memo;
  made : made_of l.memo ≡ made_of l.initial.memo;
  bound : AreFirstBound l.bound l.types l.types (named (λ k. k) (map deref_pair l.yielded)) (extern_list l.second) (Some (extern_list l.parts));
  names : HasFirstNames l.bound (named (λ k. k) (map deref_pair l.yielded)) (extern_list l.parts);
  standing : AllStand l.types (extern_keys (extern_list l.parts));
  built : FromBuilt (extern_keys (extern_list l.first) ++ extern_keys (extern_list l.second)) l.types (made_of l.initial.memo) (λ c o. AreBuilt c l.types o (extern_list l.first) (extern_list l.second) (extern_list l.parts));
}
