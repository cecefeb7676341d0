-- Lists of calls as the interfaces of WIT packages give them: instances under their identifiers,
-- whose interfaces export types and functions, and plain items under other names.
use Rattle.std.specs.Prelude.{◌≡◌, ◌⊎◌, List, All, Contains, Some}
use Rattle.wac_model.specs.ItemTree.{ItemTree}
use Rattle.wac_component.specs.Id.{Id}
use Rattle.wac_component.specs.Collection.{Collection}
use Rattle.wac_component.specs.Implicit.{identifier, HasIdentifier}
use Rattle.wac_component.specs.Key.{interface_key, resource_key}
use Rattle.wac_component.specs.Reach.{Reaches}
use Rattle.wac_component.specs.Tree.{item_tree}
use Rattle.wac_component.specs.declared.items.ItemKind.{ItemKind}
use Rattle.wac_component.specs.declared.items.ItemKind.TheVariants.{«Type» as OfType, Func, Instance}
use Rattle.wac_component.specs.declared.items.Type.TheVariants.{Value as TypeValue, Resource as TypeResource}
use Rattle.wac_component.specs.Entries.{exports_at, owner_at}
use Rattle.wac_names.specs.Class.{Class}
use Rattle.wac_aggregator_promises.specs.Call.{Call, call_track, call_tree, IsCallOn}
use Rattle.wac_aggregator_promises.specs.Entries.{IsIdentifiedOn, Uses, ReachesByUses}
use Rattle.wac_aggregator_promises.specs.PlainList.{IsPlain}

-- the item is the instance of an interface whose identifier is the name that it is handed in under
pub record IsNamedInstance (c : Call) (i : Id) : Type 0 where
  pub instance : c.kind ≡ Instance i
  pub identified : identifier c.types i ≡ Some c.name

-- the least set with the interfaces of these instances and each interface that a member uses
pub data IsMember (calls : List Call) (c : Collection) : Id → Type 0 where
  handed_in : {i : Id} → (call : Call) → Contains calls call → call.types ≡ c → IsNamedInstance call i → IsMember calls c i
  used : {i j : Id} → IsMember calls c i → Uses c i j → IsMember calls c j

-- a member whose identifier is on the track
pub record IsMemberOn (calls : List Call) (t : Class) (c : Collection) (i : Id) : Type 0 where
  pub member : IsMember calls c i
  pub is_on : IsIdentifiedOn c i t

-- the tree of a member on the track
pub record IsMemberTree (calls : List Call) (t : Class) (tree : ItemTree) : Type 0 where
  pub types : Collection
  pub id : Id
  pub member : IsMemberOn calls t types id
  pub is_tree : tree ≡ item_tree types (Instance id)

-- the tree of a plain item that was handed in under a name on the track
pub record IsPlainTree (calls : List Call) (t : Class) (tree : ItemTree) : Type 0 where
  pub call : Call
  pub is_on : IsCallOn calls t call
  pub plain : IsPlain call.types call.kind
  pub is_tree : tree ≡ call_tree call

-- what the import on a track is the meet of: the members on it, or else its plain items
abbrev pub IsTreeOn : List Call → Class → ItemTree → Type 0
IsTreeOn calls t tree = IsMemberTree calls t tree ⊎ IsPlainTree calls t tree

-- a plain item, under a name on the track of no member
pub record IsPlainApart (calls : List Call) (c : Call) : Type 0 where
  pub plain : IsPlain c.types c.kind
  pub apart : (d : Collection) (i : Id) → IsMember calls d i → IsIdentifiedOn d i (call_track c) → ⊥

-- a function, a value type or a resource
abbrev pub IsLeafItem : ItemKind → Type 0
IsLeafItem (Func f) = Unit {0}
IsLeafItem (OfType (TypeValue v)) = Unit {0}
IsLeafItem (OfType (TypeResource r)) = Unit {0}
IsLeafItem i = ⊥

-- interfaces of a collection, with each that one of them uses: identified, with leaves as exports;
-- and what owns a resource that one reaches is reached from it by uses
pub record AreWit (c : Collection) (P : Id → Type 0) : Type 0 where
  pub uses : (i j : Id) → P i → Uses c i j → P j
  pub identified : (i : Id) → P i → HasIdentifier c i
  pub exports : (i : Id) → P i → All (λ e. IsLeafItem e.1) (exports_at c (interface_key i))
  pub owners : (i r o : Id) → P i → Reaches c (interface_key i) (resource_key r) → owner_at c r ≡ Some o → ReachesByUses c i o

pub record IsWitList (calls : List Call) : Type 0 where
  pub items : All (λ c. ((i : Id) × IsNamedInstance c i) ⊎ IsPlainApart calls c) calls
  pub identified : (c : Collection) (i : Id) → IsMember calls c i → HasIdentifier c i
  pub exports : (c : Collection) (i : Id) → IsMember calls c i → All (λ e. IsLeafItem e.1) (exports_at c (interface_key i))
  -- the owner of a resource that a member reaches is reached from that member by uses
  pub owners : (c : Collection) (i r o : Id) → IsMember calls c i → Reaches c (interface_key i) (resource_key r) → owner_at c r ≡ Some o → ReachesByUses c i o
