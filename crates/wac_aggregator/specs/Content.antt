-- What an aggregator holds.
use Rattle.std.specs.Prelude.{List, Option}
use Rattle.std.specs.Option.{option_map}
use Rattle.wac_component.specs.Collection.{Collection}
use Rattle.wac_component.specs.Id.{Id}
use Rattle.wac_component.specs.Key.{Key, Sort, defined_sort, resource_sort, func_sort, interface_sort, world_sort, module_sort, defined_key, resource_key, func_key, interface_key, world_key, module_key}
use Rattle.wac_aggregator_memo.specs.Memo.{Remembered, own_of}
use Rattle.wac_names.specs.Class.{Class}
use Rattle.wac_aggregator_promises.specs.Aggregated.{Aggregated, track_imports}
use Rattle.wac_aggregator_promises.specs.Answer.{ImportTrees}
use Rattle.wac_aggregator_narrowing.specs.State.{State}
use Rattle.wac_aggregator_memo.specs.declared.memo.Memo.{Memo}
use Rattle.wac_aggregator_imports.specs.Import.{ImportsContent, canonical, import_at}
use Rattle.wac_aggregator_imports.specs.Left.{listed_imports}
use Rattle.wac_aggregator_taking.specs.Takes.{shared_keys}
use Rattle.wac_aggregator_taking.specs.declared.state.Merging.{Merging}

-- ids of other collections, each with the own id that stands for it, sort by sort
pub record Pairs : Type 0 where
  pub defined : List (Id × Id)
  pub resources : List (Id × Id)
  pub funcs : List (Id × Id)
  pub interfaces : List (Id × Id)
  pub worlds : List (Id × Id)
  pub modules : List (Id × Id)

-- its collection, its imports, the shared entries under the classes of their identifiers, and the
-- ids that were taken in, and those that were copied
pub record AggregatorContent : Type 0 where
  pub types : Collection
  pub imports : ImportsContent
  pub shared : List (Class × Id)
  pub taken : Pairs
  pub copies : Pairs

-- its collection, its imports, and where names lead
abbrev pub shown : AggregatorContent → Aggregated
shown a = record { types = a.types; imports = listed_imports a.imports; canonical = canonical a.imports }

-- the tree of the import on each track
abbrev pub track_trees : AggregatorContent → ImportTrees
track_trees a = track_imports (shown a)

-- what stands for an id of a sort, if anything does
abbrev pub own_in : Pairs → Sort → Id → Option Key
own_in m defined_sort p = option_map defined_key (own_of m.defined p)
own_in m resource_sort p = option_map resource_key (own_of m.resources p)
own_in m func_sort p = option_map func_key (own_of m.funcs p)
own_in m interface_sort p = option_map interface_key (own_of m.interfaces p)
own_in m world_sort p = option_map world_key (own_of m.worlds p)
own_in m module_sort p = option_map module_key (own_of m.modules p)

abbrev pub remembered_in : Pairs → Remembered
remembered_in m k = own_in m k.sort k.id

-- the state that the laws of merging speak of
abbrev pub state_in : AggregatorContent → State
state_in a = record { own = a.types; shared = shared_keys a.shared; imports = import_at a.imports; taken = remembered_in a.taken; copies = remembered_in a.copies }

-- what the state of merging holds of that
abbrev pub memo_pairs : Memo → Pairs
memo_pairs m = record { defined = m.defined.entries; resources = m.resources.entries; funcs = m.funcs.entries; interfaces = m.interfaces.entries; worlds = m.worlds.entries; modules = m.modules.entries }

abbrev pub content_of : Merging → AggregatorContent
content_of a = record { types = a.types; imports = a.imports; shared = a.shared.entries; taken = memo_pairs a.taken; copies = memo_pairs a.copies }
