-- The laws of call lists.
use Rattle.std.specs.Prelude.{◌≡◌, ◌↔◌, ◌⊎◌, ℕ, List, [], ◌∷◌, ◌++◌, All, Contains, IsPermutation, IsSome, Some}
use Rattle.std.specs.Map.{keys_of}
use Rattle.std.specs.Str.{bytes_eq}
use Rattle.wac_model.specs.Text.{Text, lookup}
use Rattle.wac_model.specs.ItemTree.{ItemTree, item, composite, interface, no_items}
use Rattle.wac_model.specs.Order.{Fits}
use Rattle.wac_bounds.specs.Bounds.{IsMeet}
use Rattle.wac_component.specs.Id.{Id}
use Rattle.wac_component.specs.Collection.{Collection}
use Rattle.wac_component.specs.Growth.{Extends}
use Rattle.wac_component.specs.Key.{Key, Stands, AllStand, interface_key, item_keys, named_keys}
use Rattle.wac_component.specs.Laws.{HasLeavesOf}
use Rattle.wac_component.specs.Sound.{IsSound}
use Rattle.wac_component.specs.Tree.{item_tree, items_of}
use Rattle.wac_component.specs.declared.items.ItemKind.{ItemKind}
use Rattle.wac_component.specs.declared.items.ItemKind.TheVariants.{Instance}
use Rattle.wac_component.specs.Entries.{exports_at}
use Rattle.wac_names.specs.Class.{Class, class_of}
use Rattle.wac_aggregator_promises.specs.Aggregated.{Aggregated, import_by_name, track_imports, AreSteps, IsAggregated, IsByTrack, AllAreServed}
use Rattle.wac_aggregator_promises.specs.Answer.{ImportTrees, CallsAnswer, accepted, refused, IsAccepted, AreMeets, IsPlainAnswer, IsWitAnswer, AreSameAnswers}
use Rattle.wac_aggregator_promises.specs.Attempt.{Attempt, IsSource, Touches, later_attempt}
use Rattle.wac_aggregator_promises.specs.Call.{Call, AreSoundCalls, call_track, call_tree, IsItemOn}
use Rattle.wac_aggregator_promises.specs.Compatible.{LeadsOver, IsCompatibleWitList}
use Rattle.wac_aggregator_promises.specs.Due.{IsDue, AreImportNames}
use Rattle.wac_aggregator_promises.specs.Entries.{ReachesByUses}
use Rattle.wac_aggregator_promises.specs.Leaves.{IsLeafMap, IsUnionOf}
use Rattle.wac_aggregator_promises.specs.PlainList.{IsPlainList, IsCompatiblePlainList}
use Rattle.wac_aggregator_promises.specs.PlainRun.{IsPlainRun, no_import_trees}
use Rattle.wac_aggregator_promises.specs.Reason.{CallRefusal, TrackLeads, IsReason}
use Rattle.wac_aggregator_promises.specs.Shared.{TakenIds, SharedEntries, AreShared, CannotTake}
use Rattle.wac_aggregator_promises.specs.TakingIn.{TakesIn, IsSharedAdded, IsGrown, none_shared}
use Rattle.wac_aggregator_promises.specs.TreeSets.{HaveNoLowerBound, IsMeetOf}
use Rattle.wac_aggregator_promises.specs.WitList.{IsNamedInstance, IsLeafItem, IsWitList, IsMember, IsTreeOn}
use Rattle.wac_aggregator_promises.specs.WitReason.{IsWitReason}
use Rattle.wac_aggregator_promises.specs.WitRun.{AreMembers, AreWitImports, IsWitRun}

-- plain items that are met one after another are accepted exactly where they are compatible, and
-- each import is the meet of its track
abbrev pub PlainRunsAnswer : Type 0
PlainRunsAnswer = (calls : List Call) (a : CallsAnswer) → IsPlainList calls → IsPlainRun 0 no_import_trees calls a → IsPlainAnswer calls a

-- and there is such a run
abbrev pub PlainRunsExist : Type 0
PlainRunsExist = (calls : List Call) → (a : CallsAnswer) × IsPlainRun 0 no_import_trees calls a

-- in any order
abbrev pub PlainAnswersInAnyOrder : Type 0
PlainAnswersInAnyOrder = (calls others : List Call) (a b : CallsAnswer) → IsPermutation calls others → IsPlainAnswer calls a → IsPlainAnswer others b → AreSameAnswers a b

-- a plain list is a WIT list without members, compatible as the one
-- exactly where it is as the other
pub record PlainListsAreWitLists : Type 0 where
  pub is_wit : (calls : List Call) → IsPlainList calls → IsWitList calls
  pub no_member : (calls : List Call) (c : Collection) (i : Id) → IsPlainList calls → ¬ IsMember calls c i
  pub trees : (calls : List Call) (t : Class) (x : ItemTree) → IsPlainList calls → IsItemOn calls t x ↔ IsTreeOn calls t x
  pub compatible : (calls : List Call) → IsPlainList calls → IsCompatiblePlainList calls ↔ IsCompatibleWitList calls
  pub answers : (calls : List Call) (a : CallsAnswer) → IsPlainList calls → IsPlainAnswer calls a ↔ IsWitAnswer calls a

-- a member's tree is a map from names to leaves
abbrev pub MembersAreLeafMaps : Type 0
MembersAreLeafMaps = (calls : List Call) (c : Collection) (i : Id) → IsWitList calls → AreSoundCalls calls → IsMember calls c i → IsLeafMap (item_tree c (Instance i))

-- the tree of an instance whose exports are leaves follows from these leaves,
-- in whatever collection has them
abbrev pub LeafInstancesFollowLeaves : Type 0
LeafInstancesFollowLeaves = (c d : Collection) (i : Id) → IsSound c → IsSound d → HasLeavesOf c d → Stands d (interface_key i) → All (λ e. IsLeafItem e.1) (exports_at d (interface_key i))
    → AllStand c (named_keys item_keys (exports_at d (interface_key i))) → item_tree d (Instance i) ≡ composite item interface no_items (items_of (item_tree c) (exports_at d (interface_key i)))

-- the meet of such maps is their union
abbrev pub MeetsAreUnions : Type 0
MeetsAreUnions = (t : ItemTree) (ts : List ItemTree) (m : ItemTree) → All IsLeafMap (t ∷ ts) → IsMeet m (t ∷ ts) ↔ IsUnionOf m (t ∷ ts)

-- at a call of a compatible WIT list there is no reason on one track
abbrev pub CompatibleListsHaveNoWitReason : Type 0
CompatibleListsHaveNoWitReason = (front : List Call) (call : Call) (imports : ImportTrees) (why : CallRefusal)
    → IsWitList (front ++ call ∷ []) → AreSoundCalls (front ++ call ∷ []) → IsCompatibleWitList (front ++ call ∷ [])
    → AreMeets (IsTreeOn front) front imports → ¬ IsWitReason (later_attempt front (imports (call_track call)) call) why

-- what is a source is one where there are more calls, and tracks lead to each other where they did
pub record SourcesGrow : Type 0 where
  pub sources : (start : Collection) (calls others : List Call) → ((c : Call) → Contains calls c → Contains others c)
      → (c : Collection) (k : Key) → IsSource (record { start = start; calls = calls }) c k → IsSource (record { start = start; calls = others }) c k
  pub leads : (start : Collection) (calls others : List Call) → ((c : Call) → Contains calls c → Contains others c)
      → (s t : Class) → LeadsOver (TrackLeads (record { start = start; calls = calls })) s t → LeadsOver (TrackLeads (record { start = start; calls = others })) s t

-- where a shared entry can't take in a member of a WIT list, after some were
-- taken in, the list isn't compatible
abbrev pub RefusedMembersAreIncompatible : Type 0
RefusedMembersAreIncompatible = (calls : List Call) (taken : TakenIds) (own : Collection) (shared : SharedEntries) (c : Collection) (i : Id)
    → IsWitList calls → AreShared taken own shared → ((d : Collection) (j : Id) → Contains taken (d, j) → IsMember calls d j)
    → IsMember calls c i → CannotTake own shared c i → ¬ IsCompatibleWitList calls

-- nothing is shared before anything was taken in; what is shared stays so where the collection is
-- only added to, and where one more interface is taken in
pub record SharingGoesOn : Type 0 where
  pub start : (own : Collection) → IsSound own → AreShared [] own none_shared
  pub added : (taken : TakenIds) (own after : Collection) (shared : SharedEntries) → AreShared taken own shared → Extends own after → IsSound after → AreShared taken after shared
  pub more : (taken : TakenIds) (own after : Collection) (shared now : SharedEntries) (c : Collection) (i : Id) → AreShared taken own shared → TakesIn own shared after now c i → AreShared ((c, i) ∷ taken) after now

-- a shared entry that is added, and one that grows, takes the interface in
pub record GrowthTakesIn : Type 0 where
  pub added : (taken : TakenIds) (own after : Collection) (shared now : SharedEntries) (c : Collection) (i : Id) → IsSound c → Stands c (interface_key i) → AreShared taken own shared → IsSharedAdded own shared after now c i → TakesIn own shared after now c i
  pub grown : (taken : TakenIds) (own after : Collection) (shared : SharedEntries) (c : Collection) (i : Id) → IsSound c → Stands c (interface_key i) → AreShared taken own shared → IsGrown own shared after c i → TakesIn own shared after shared c i

-- one call more has the members of those before it and, where its item is a named
-- instance, what that reaches by uses
abbrev pub MembersOfMore : Type 0
MembersOfMore = (front : List Call) (call : Call) (c : Collection) (i : Id)
    → IsMember (front ++ call ∷ []) c i ↔ (IsMember front c i ⊎ ((call.types ≡ c) × ((j : Id) × IsNamedInstance call j × ReachesByUses c j i)))

-- where the imports on members' tracks are the shared entries, each import is the meet of its track
abbrev pub WitImportsAreMeets : Type 0
WitImportsAreMeets = (calls : List Call) (taken : TakenIds) (own : Collection) (shared : SharedEntries) (imports : ImportTrees)
    → IsWitList calls → AreMembers calls taken → AreShared taken own shared → AreWitImports calls own shared imports → AreMeets (IsTreeOn calls) calls imports

-- a WIT list is accepted exactly where it is compatible, and each import is the meet of its track
abbrev pub WitRunsAnswer : Type 0
WitRunsAnswer = (calls : List Call) (a : CallsAnswer) → IsWitList calls → AreSoundCalls calls → IsWitRun calls a → IsWitAnswer calls a

-- in any order
pub record WitAnswersInAnyOrder : Type 0 where
  pub is_wit : (calls others : List Call) → IsPermutation calls others → IsWitList calls → IsWitList others
  pub due : (calls others : List Call) (t : Class) → IsPermutation calls others → IsDue calls t → IsDue others t
  pub answers : (calls others : List Call) (a b : CallsAnswer) → IsPermutation calls others → IsWitAnswer calls a → IsWitAnswer others b → AreSameAnswers a b

-- where calls serve their items one after another, each import serves all
-- that was handed in on its track
abbrev pub StepsServeAll : Type 0
StepsServeAll = (a b : Aggregated) (calls : List Call) → AreSteps a calls b → IsByTrack b → AllAreServed calls b

-- the import to which a name leads is the one on its track
abbrev pub NamesLeadToTracks : Type 0
NamesLeadToTracks = (a : Aggregated) (name : Text) (import : ItemKind) → IsByTrack a → import_by_name a name ≡ Some import → track_imports a (class_of name) ≡ Some (item_tree a.types import)

-- where the imports are named as they are due, one stands on exactly the due tracks
abbrev pub NamedImportsAreDue : Type 0
NamedImportsAreDue = (calls : List Call) (a : Aggregated) → AreImportNames calls (keys_of a.imports) → (t : Class) → IsDue calls t ↔ IsSome (track_imports a t)

-- where two instances export items under one name that have no common lower bound, they have none
abbrev pub ClashingExportsHaveNoBound : Type 0
ClashingExportsHaveNoBound = (c d : Collection) (i j : Id) (name : Text) (x y : ItemKind) → IsSound c → IsSound d → Stands c (interface_key i) → Stands d (interface_key j)
    → lookup bytes_eq (exports_at c (interface_key i)) name ≡ Some x → lookup bytes_eq (exports_at d (interface_key j)) name ≡ Some y
    → HaveNoLowerBound (item_tree c x) (item_tree d y) → HaveNoLowerBound (item_tree c (Instance i)) (item_tree d (Instance j))

-- what clashes on one track clashes, where the item touches
abbrev pub WitReasonsAreReasons : Type 0
WitReasonsAreReasons = (a : Attempt) (why : CallRefusal) → Touches a → IsWitReason a why → IsReason a why

-- answers are exact: a list is accepted exactly where it is compatible, and each refused
-- list has one call that is refused
pub record AnswersAreExact : Type 0 where
  pub plain : (calls : List Call) (a : CallsAnswer) → IsPlainAnswer calls a → IsAccepted a ↔ IsCompatiblePlainList calls
  pub wit : (calls : List Call) (a : CallsAnswer) → IsWitAnswer calls a → IsAccepted a ↔ IsCompatibleWitList calls
  pub one_plain_call : (calls : List Call) (m n : ℕ) → IsPlainAnswer calls (refused m) → IsPlainAnswer calls (refused n) → m ≡ n
  pub one_wit_call : (calls : List Call) (m n : ℕ) → IsWitAnswer calls (refused m) → IsWitAnswer calls (refused n) → m ≡ n

-- after every accepted list the import at the canonical name of each name that was handed in is a
-- subtype of every item that was handed in on that name's track; a list of plain items, or of WIT
-- interfaces, is accepted exactly where its tracks are compatible; and each import is then the
-- greatest lower bound of its track, whatever the order of calls
pub record ImportsAreGreatestBounds : Type 0 where
  pub serves : (calls : List Call) (a : Aggregated) → IsAggregated calls a
      → (c d : Call) → Contains calls c → Contains calls d → call_track d ≡ call_track c → (import : ItemKind) × (import_by_name a c.name ≡ Some import) × Fits (item_tree a.types import) (call_tree d)
  pub accepts : (calls : List Call) (answer : CallsAnswer) → IsPlainList calls ⊎ IsWitList calls → (IsWitList calls → IsWitAnswer calls answer)
      → IsAccepted answer ↔ IsCompatibleWitList calls
  pub greatest : (calls : List Call) (a : Aggregated) → IsPlainList calls ⊎ IsWitList calls → (IsWitList calls → IsWitAnswer calls (accepted (track_imports a))) → IsByTrack a
      → (name : Text) (import : ItemKind) → import_by_name a name ≡ Some import → IsMeetOf (item_tree a.types import) (IsTreeOn calls (class_of name))
  pub any_order : (calls others : List Call) (answer other : CallsAnswer) → IsPlainList calls ⊎ IsWitList calls → IsPermutation calls others → (IsWitList calls → IsWitAnswer calls answer) → (IsWitList others → IsWitAnswer others other)
      → AreSameAnswers answer other
