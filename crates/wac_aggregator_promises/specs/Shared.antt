-- The shared entries of an aggregator, after it took in some interfaces with
-- identifiers that export leaves alone.
use Rattle.std.specs.Prelude.{◌≡◌, ◌≢◌, List, Option, Some, All, Contains}
use Rattle.std.specs.Str.{bytes_eq}
use Rattle.wac_model.specs.Text.{Text, lookup}
use Rattle.wac_model.specs.ItemTree.{ItemTree}
use Rattle.wac_component.specs.Id.{Id}
use Rattle.wac_component.specs.Collection.{Collection, UseContent}
use Rattle.wac_component.specs.Key.{Stands, interface_key}
use Rattle.wac_component.specs.Sound.{IsSound}
use Rattle.wac_component.specs.Tree.{item_tree}
use Rattle.wac_component.specs.declared.items.ItemKind.TheVariants.{Instance}
use Rattle.wac_component.specs.Entries.{HasUse, uses_at, exports_at}
use Rattle.wac_names.specs.Class.{Class}
use Rattle.wac_aggregator_promises.specs.Entries.{IsIdentifiedOn}
use Rattle.wac_aggregator_promises.specs.TreeSets.{IsMeetOf, HaveNoLowerBound}
use Rattle.wac_aggregator_promises.specs.WitList.{IsLeafItem}

-- the interfaces that were taken in, each of its collection
abbrev pub TakenIds : Type 0
TakenIds = List (Collection × Id)

-- the shared entry on each track that has one
abbrev pub SharedEntries : Type 0
SharedEntries = Class → Option Id

-- one that was taken in, and has its identifier on the track
pub record IsTakenOn (taken : TakenIds) (t : Class) (c : Collection) (i : Id) : Type 0 where
  pub among : Contains taken (c, i)
  pub is_on : IsIdentifiedOn c i t

pub record IsTakenTree (taken : TakenIds) (t : Class) (tree : ItemTree) : Type 0 where
  pub types : Collection
  pub id : Id
  pub is_on : IsTakenOn taken t types id
  pub is_tree : tree ≡ item_tree types (Instance id)

-- the aggregator's use v is the interface's use u: of the shared entry on
-- its track, and with its `name`
pub record IsUseOf (shared : SharedEntries) (v : UseContent) (c : Collection) (u : UseContent) : Type 0 where
  pub track : Class
  pub is_on : IsIdentifiedOn c u.interface track
  pub is_shared : shared track ≡ Some v.interface
  pub same_name : v.name ≡ u.name

-- the shared entry at s has, under the name, the use u
pub record HasSharedUse (own : Collection) (shared : SharedEntries) (s : Id) (name : Text) (c : Collection) (u : UseContent) : Type 0 where
  pub content : UseContent
  pub has : lookup bytes_eq (uses_at own (interface_key s)) name ≡ Some content
  pub is_use : IsUseOf shared content c u

-- the use v under the name is that of an interface on the track that was taken in
pub record IsTakenUse (taken : TakenIds) (shared : SharedEntries) (t : Class) (name : Text) (v : UseContent) : Type 0 where
  pub types : Collection
  pub id : Id
  pub content : UseContent
  pub is_on : IsTakenOn taken t types id
  pub has : HasUse types (interface_key id) name content
  pub is_use : IsUseOf shared v types content

pub record AreShared (taken : TakenIds) (own : Collection) (shared : SharedEntries) : Type 0 where
  pub sound : IsSound own
  pub stands : (t : Class) (s : Id) → shared t ≡ Some s → Stands own (interface_key s)
  pub identified : (t : Class) (s : Id) → shared t ≡ Some s → IsIdentifiedOn own s t
  pub leaves : (t : Class) (s : Id) → shared t ≡ Some s → All (λ e. IsLeafItem e.1) (exports_at own (interface_key s))
  -- what was taken in has a shared entry on its track
  pub remembered : (t : Class) (c : Collection) (i : Id) → IsTakenOn taken t c i → (s : Id) × (shared t ≡ Some s)
  -- whose tree is the meet of those on the track
  pub trees : (t : Class) (s : Id) → shared t ≡ Some s → IsMeetOf (item_tree own (Instance s)) (IsTakenTree taken t)
  -- and which has their uses, and no others
  pub uses : (t : Class) (s : Id) (c : Collection) (i : Id) (name : Text) (u : UseContent) → shared t ≡ Some s → IsTakenOn taken t c i → HasUse c (interface_key i) name u → HasSharedUse own shared s name c u
  pub no_others : (t : Class) (s : Id) (name : Text) (v : UseContent) → shared t ≡ Some s → lookup bytes_eq (uses_at own (interface_key s)) name ≡ Some v → IsTakenUse taken shared t name v

-- why the shared entry on an interface's track can't take it in: their trees have no common
-- lower bound, or a use of the one is of an interface on another track than the other's use of
-- this name, or has another `name`
pub data CannotTake (own : Collection) (shared : SharedEntries) (c : Collection) (i : Id) : Type 0 where
  no_bound : (t : Class) (s : Id) → IsIdentifiedOn c i t → shared t ≡ Some s → HaveNoLowerBound (item_tree own (Instance s)) (item_tree c (Instance i)) → CannotTake own shared c i
  interfaces_clash : (t : Class) (s : Id) (name : Text) (v u : UseContent) (on other_on : Class) → IsIdentifiedOn c i t → shared t ≡ Some s
      → lookup bytes_eq (uses_at own (interface_key s)) name ≡ Some v → HasUse c (interface_key i) name u
      → IsIdentifiedOn own v.interface on → IsIdentifiedOn c u.interface other_on → on ≢ other_on → CannotTake own shared c i
  names_clash : (t : Class) (s : Id) (name : Text) (v u : UseContent) → IsIdentifiedOn c i t → shared t ≡ Some s
      → lookup bytes_eq (uses_at own (interface_key s)) name ≡ Some v → HasUse c (interface_key i) name u → v.name ≢ u.name → CannotTake own shared c i
