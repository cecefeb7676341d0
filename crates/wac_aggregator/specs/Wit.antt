-- What holds of the state of merging once the calls at the front of a list
-- of WIT interfaces were accepted.
use Rattle.std.specs.Prelude.{◌≡◌, ◌≢◌, List, Some, None}
use Rattle.std.specs.Option.{option_map}
use Rattle.wac_component.specs.Collection.{Collection}
use Rattle.wac_component.specs.Id.{Id}
use Rattle.wac_component.specs.Key.{Each, item_keys}
use Rattle.wac_component.specs.Tree.{item_tree}
use Rattle.wac_component.specs.declared.items.ItemKind.TheVariants.{Instance}
use Rattle.wac_names.specs.Class.{Class}
use Rattle.wac_aggregator_promises.specs.Answer.{ImportTrees}
use Rattle.wac_aggregator_promises.specs.Call.{Call, call_track}
use Rattle.wac_aggregator_promises.specs.Shared.{TakenIds}
use Rattle.wac_aggregator_promises.specs.TreeSets.{IsMeetOf}
use Rattle.wac_aggregator_promises.specs.WitList.{IsNamedInstance, IsPlainTree}
use Rattle.wac_aggregator_promises.specs.WitRun.{AreMembers}
use Rattle.wac_aggregator_imports.specs.Import.{ImportContent, import_of}
use Rattle.wac_aggregator_narrowing.specs.Identified.{IsUnstopped}
use Rattle.wac_aggregator_taking.specs.Members.{HasTakenIn, HasAllOf}
use Rattle.wac_aggregator_taking.specs.Takes.{shared_in}
use Rattle.wac_aggregator_taking.specs.declared.state.Merging.{Merging}
use Rattle.wac_aggregator.specs.HandedIn.{IsOneOf}

-- the trees of the imports
abbrev pub trees_of : Merging → ImportTrees
trees_of a t = option_map (λ (i : ImportContent). item_tree a.types i.1) (import_of a.imports t)

-- an import on the track of a shared entry is an instance of that
abbrev pub AreInstances : Merging → Class → Type 0
AreInstances a t = (i : ImportContent) → import_of a.imports t ≡ Some i → (s : Id) × (shared_in a.shared.entries t ≡ Some s) × (i.1 ≡ Instance s)

-- from no import on a track without shared entry does an open walk stop
abbrev pub AreUnstopped : Merging → Type 0
AreUnstopped a = (t : Class) (i : ImportContent) → import_of a.imports t ≡ Some i → shared_in a.shared.entries t ≡ None → Each (IsUnstopped a.types) (item_keys i.1)

-- the members were taken in, and of the interfaces of the calls that have identifiers no others; an
-- import is an instance of the shared entry on its track, or the meet of the plain items there,
-- which openly leads to no interface with an identifier
pub record IsWitAfter (calls front : List Call) (a : Merging) : Type 0 where
  pub taken : TakenIds
  pub has : HasTakenIn a taken
  pub members : AreMembers front taken
  pub all : (g : Collection) → IsOneOf calls g → HasAllOf g a taken
  pub instances : (t : Class) → shared_in a.shared.entries t ≢ None → AreInstances a t
  pub plain : (t : Class) (i : ImportContent) → import_of a.imports t ≡ Some i → shared_in a.shared.entries t ≡ None → IsMeetOf (item_tree a.types i.1) (IsPlainTree front t)
  pub unstopped : AreUnstopped a

-- the item is an instance of this interface, whose identifier is the name, and an import on its
-- track is one of the shared entry there
pub record MayHandIn (call : Call) (a : Merging) (i : Id) : Type 0 where
  pub named : IsNamedInstance call i
  pub import : AreInstances a (call_track call)
