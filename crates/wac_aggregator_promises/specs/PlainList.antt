-- Lists of items without identifiers, uses and owners, and when each track of one is compatible.
use Rattle.std.specs.Prelude.{◌≡◌, List, [], All, None}
use Rattle.wac_component.specs.Id.{Id}
use Rattle.wac_component.specs.Collection.{Collection}
use Rattle.wac_component.specs.Implicit.{identifier}
use Rattle.wac_component.specs.Key.{Key, item_keys, interface_key, resource_key}
use Rattle.wac_component.specs.Replacing.{NamesReach}
use Rattle.wac_component.specs.declared.items.ItemKind.{ItemKind}
use Rattle.wac_component.specs.Entries.{uses_at, owner_at}
use Rattle.wac_names.specs.Class.{Class}
use Rattle.wac_aggregator_promises.specs.Call.{Call, IsItemOn}
use Rattle.wac_aggregator_promises.specs.TreeSets.{HaveLowerBound}

-- the ids reach no interface with an identifier, no interface or world with
-- uses, and no resource with an owner
pub record ArePlain (c : Collection) (ks : List Key) : Type 0 where
  pub no_identifier : (j : Id) → NamesReach c ks (interface_key j) → identifier c j ≡ None
  pub no_uses : (k : Key) → NamesReach c ks k → uses_at c k ≡ []
  pub no_owner : (r : Id) → NamesReach c ks (resource_key r) → owner_at c r ≡ None

-- those in the item don't
abbrev pub IsPlain : Collection → ItemKind → Type 0
IsPlain c i = ArePlain c (item_keys i)

-- each item is plain
abbrev pub IsPlainList : List Call → Type 0
IsPlainList calls = All (λ c. IsPlain c.types c.kind) calls

-- the trees of the items of each track have a common lower bound
abbrev pub IsCompatiblePlainList : List Call → Type 0
IsCompatiblePlainList calls = (t : Class) → HaveLowerBound (IsItemOn calls t)
