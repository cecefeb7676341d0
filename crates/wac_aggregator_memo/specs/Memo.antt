-- What stands for the entries of other collections.
use Rattle.std.specs.Prelude.{◌≡◌, ◌⊎◌, List, Option, Some}
use Rattle.std.specs.Map.{lookup}
use Rattle.std.specs.Option.{option_map}
use Rattle.wac_component.specs.Id.{Id, is_same}
use Rattle.wac_component.specs.Key.{Key, Sort, defined_sort, resource_sort, func_sort, interface_sort, world_sort, module_sort}
use Rattle.wac_aggregator_memo.specs.declared.memo.Memo.{Memo}

-- the own entries of foreign ids
abbrev pub Remembered : Type 0
Remembered = Key → Option Key

-- one more id is remembered
pub record AddsPair (before now : Remembered) (theirs own : Key) : Type 0 where
  pub is : now theirs ≡ Some own
  pub kept : (k o : Key) → before k ≡ Some o → now k ≡ Some o
  pub only : (k o : Key) → now k ≡ Some o → ((k ≡ theirs) × (o ≡ own)) ⊎ (before k ≡ Some o)

-- the id beside an id in a list of pairs
abbrev pub own_of : List (Id × Id) → Id → Option Id
own_of ps p = lookup (is_same p) ps

-- the pairs of a sort
abbrev pub pairs_at : Memo → Sort → List (Id × Id)
pairs_at m defined_sort = m.defined.entries
pairs_at m resource_sort = m.resources.entries
pairs_at m func_sort = m.funcs.entries
pairs_at m interface_sort = m.interfaces.entries
pairs_at m world_sort = m.worlds.entries
pairs_at m module_sort = m.modules.entries

-- the own entry of each foreign id, if one stands for it
abbrev pub own_at : Memo → Sort → Id → Option Key
own_at m s p = option_map (λ o. record { sort = s; id = o }) (own_of (pairs_at m s) p)

abbrev pub memo_of : Memo → Remembered
memo_of m k = own_at m k.sort k.id
