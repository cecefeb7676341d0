-- How lists of WIT interfaces are handed in one after another, on a new aggregator: what holds of
-- it after the calls that it accepted, and what stands where it refuses one.
use Rattle.std.specs.Prelude.{◌≡◌, ◌↔◌, List, [], ◌∷◌, ◌++◌, length, Contains, IsSome, Some, None}
use Rattle.wac_model.specs.Text.{Text}
use Rattle.wac_model.specs.ItemTree.{ItemTree}
use Rattle.wac_component.specs.Id.{Id}
use Rattle.wac_component.specs.Collection.{Collection}
use Rattle.wac_component.specs.Tree.{item_tree}
use Rattle.wac_component.specs.declared.items.ItemKind.TheVariants.{Instance}
use Rattle.wac_names.specs.Class.{Class}
use Rattle.wac_aggregator_promises.specs.Answer.{ImportTrees, CallsAnswer, accepted, refused, AreMeets}
use Rattle.wac_aggregator_promises.specs.Attempt.{single_attempt}
use Rattle.wac_aggregator_promises.specs.Call.{Call, call_track}
use Rattle.wac_aggregator_promises.specs.Compatible.{TrackUses, LeadsOver}
use Rattle.wac_aggregator_promises.specs.Due.{IsDue}
use Rattle.wac_aggregator_promises.specs.Reason.{KindsDiffer, ImportClashes, UsesUnidentified, OwnerUnidentified, IsTaken}
use Rattle.wac_aggregator_promises.specs.Shared.{TakenIds, SharedEntries, AreShared, CannotTake}
use Rattle.wac_aggregator_promises.specs.TreeSets.{IsMeetOf}
use Rattle.wac_aggregator_promises.specs.WitList.{IsMember, IsPlainTree, IsTreeOn}

-- imports stand on exactly the due tracks: where there is a shared entry, that one, and
-- else the meet of the plain items
pub record AreWitImports (calls : List Call) (own : Collection) (shared : SharedEntries) (imports : ImportTrees) : Type 0 where
  pub due : (t : Class) → IsDue calls t ↔ IsSome (imports t)
  pub of_members : (t : Class) (s : Id) (m : ItemTree) → shared t ≡ Some s → imports t ≡ Some m → m ≡ item_tree own (Instance s)
  pub of_plain : (t : Class) (m : ItemTree) → shared t ≡ None → imports t ≡ Some m → IsMeetOf m (IsPlainTree calls t)

-- what was taken in are the members
abbrev pub AreMembers : List Call → TakenIds → Type 0
AreMembers calls taken = (c : Collection) (i : Id) → IsMember calls c i ↔ Contains taken (c, i)

-- after these calls were accepted: the aggregator's collection, its shared entries and its imports
pub record IsWitState (calls : List Call) (own : Collection) (shared : SharedEntries) (imports : ImportTrees) : Type 0 where
  pub taken : TakenIds
  pub members : AreMembers calls taken
  pub kept : AreShared taken own shared
  pub meets : AreMeets (IsTreeOn calls) calls imports

-- why a call is refused that comes after these: what the table says of it and the import on its
-- track alone; or the uses of the members lead from a track back to it; or a member that the shared
-- entry on its track can't take in, after some members were taken in
pub data IsWitRefusal (front : List Call) (call : Call) (own : Collection) (imports : ImportTrees) : Type 0 where
  by_kinds : (existing found : Text) → KindsDiffer (single_attempt own (imports (call_track call)) call) existing found → IsWitRefusal front call own imports
  by_import : ImportClashes (single_attempt own (imports (call_track call)) call) → IsWitRefusal front call own imports
  by_use : (used : Text) → UsesUnidentified (single_attempt own (imports (call_track call)) call) used → IsWitRefusal front call own imports
  by_owner : (name : Text) → OwnerUnidentified (single_attempt own (imports (call_track call)) call) name → IsWitRefusal front call own imports
  by_taking : (name : Text) → IsTaken (single_attempt own (imports (call_track call)) call) name → IsWitRefusal front call own imports
  by_cycle : (t : Class) → LeadsOver (TrackUses (front ++ call ∷ [])) t t → IsWitRefusal front call own imports
  by_member : (taken : TakenIds) (now : Collection) (shared : SharedEntries) (c : Collection) (i : Id)
      → AreShared taken now shared → ((d : Collection) (j : Id) → Contains taken (d, j) → IsMember (front ++ call ∷ []) d j)
      → IsMember (front ++ call ∷ []) c i → CannotTake now shared c i → IsWitRefusal front call own imports

-- all calls were accepted, or the one after some was refused so
pub data IsWitRun (calls : List Call) : CallsAnswer → Type 0 where
  all_accepted : (own : Collection) (shared : SharedEntries) (imports : ImportTrees) → IsWitState calls own shared imports → IsWitRun calls (accepted imports)
  one_refused : (front : List Call) (call : Call) (back : List Call) (own : Collection) (shared : SharedEntries) (imports : ImportTrees)
      → calls ≡ front ++ call ∷ back → IsWitState front own shared imports → IsWitRefusal front call own imports → IsWitRun calls (refused (length front))
