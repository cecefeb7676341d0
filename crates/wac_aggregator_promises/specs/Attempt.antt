-- A call that was tried, and what stood when it was: where a refusal may come from.
use Rattle.std.specs.Prelude.{◌≡◌, ◌≢◌, List, [], ◌∷◌, ◌++◌, Option, Contains}
use Rattle.wac_model.specs.ItemTree.{ItemTree}
use Rattle.wac_component.specs.Id.{Id}
use Rattle.wac_component.specs.Collection.{Collection}
use Rattle.wac_component.specs.Key.{Key, Stands, optional_keys, import_keys, entry_at, interface_key}
use Rattle.wac_component.specs.Replacing.{NamesReach}
use Rattle.wac_names.specs.Class.{Class}
use Rattle.wac_aggregator_promises.specs.Call.{Call}
use Rattle.wac_aggregator_promises.specs.Entries.{IsIdentifiedOn}
use Rattle.wac_aggregator_promises.specs.OpenReach.{ItemOpenReaches}

-- where entries may be from: a collection whose entries may be held, and calls
-- whose items may have been taken in
pub record Sources : Type 0 where
  pub start : Collection
  pub calls : List Call

pub record Attempt : Type 0 where
  pub call : Call
  -- the tree of the import that stood on the track of the name, if one did
  pub import : Option ItemTree
  pub sources : Sources

-- a walk through an import of one of the collection's worlds leads to the entry
pub record IsBelowImport (c : Collection) (k : Key) : Type 0 where
  pub world : Key
  pub stands : Stands c world
  pub reached : NamesReach c (optional_keys import_keys (entry_at c world)) k

-- no such walk does
pub record IsHeld (c : Collection) (k : Key) : Type 0 where
  pub stands : Stands c k
  pub above : ¬ IsBelowImport c k

-- the entry is held, or the item of a call openly reaches it
pub data IsSource (s : Sources) (c : Collection) (k : Key) : Type 0 where
  held : s.start ≡ c → IsHeld c k → IsSource s c k
  reached : (call : Call) → Contains s.calls call → call.types ≡ c → ItemOpenReaches c call.kind k → IsSource s c k

-- the item openly reaches the entry
abbrev pub OpenlyReached : Attempt → Key → Type 0
OpenlyReached a k = ItemOpenReaches a.call.types a.call.kind k

-- the item openly reaches an interface with an identifier, and another one with an
-- identifier on its track is a source
pub record Touches (a : Attempt) : Type 0 where
  pub track : Class
  pub interface : Id
  pub reached : OpenlyReached a (interface_key interface)
  pub is_on : IsIdentifiedOn a.call.types interface track
  pub other_types : Collection
  pub other : Id
  pub source : IsSource a.sources other_types (interface_key other)
  pub other_on : IsIdentifiedOn other_types other track
  pub another : other_types ≡ a.call.types → other ≢ interface

-- one call by itself, on an aggregator with this collection
abbrev pub single_attempt : Collection → Option ItemTree → Call → Attempt
single_attempt own import call = record { call = call; import = import; sources = record { start = own; calls = call ∷ [] } }

-- a collection without entries
abbrev pub nothing : Collection
nothing = record { number = 0; defined = []; resources = []; funcs = []; interfaces = []; worlds = []; modules = [] }

-- these calls alone, on an aggregator that was new before them
abbrev pub from_calls : List Call → Sources
from_calls calls = record { start = nothing; calls = calls }

-- a call that comes after others on such an aggregator
abbrev pub later_attempt : List Call → Option ItemTree → Call → Attempt
later_attempt front import call = record { call = call; import = import; sources = from_calls (front ++ call ∷ []) }
