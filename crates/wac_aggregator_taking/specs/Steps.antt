-- Steps of taking in, and what they leave to be done.
use Rattle.std.specs.Prelude.{◌≡◌, ◌<◌, ◌≤◌, ◌⊎◌, ◌++◌, ℕ, List, [], ◌∷◌, All, Option, Some, None, Result, MatchResult, map, slice_get}
use Rattle.std.specs.declared.vec.Vec.{Vec}
use Rattle.std.specs.declared.alloc.Global.{Global}
use Rattle.wac_component.specs.Collection.{Collection, AliasContent, UseContent}
use Rattle.wac_component.specs.Entries.{uses_at, exports_at, owner_at}
use Rattle.wac_aggregator_memo.specs.EntryOrder.{HasOwn}
use Rattle.wac_component.specs.Height.{keys_height}
use Rattle.wac_component.specs.Id.{Id}
use Rattle.wac_component.specs.Implicit.{HasIdentifier}
use Rattle.wac_component.specs.Key.{Key, Each, Stands, AllStand, item_keys, named_keys, defined_key, resource_key, func_key, interface_key, world_key, module_key}
use Rattle.wac_aggregator_memo.specs.Memo.{Remembered}
use Rattle.wac_aggregator_memo.specs.Renamed.{renamed_item}
use Rattle.wac_component.specs.Open.{OpenReaches}
use Rattle.wac_component.specs.declared.items.ItemKind.{ItemKind}
use Rattle.wac_component.specs.Reach.{IsAmong}
use Rattle.wac_component.specs.Sound.{IsSound}
use Rattle.wac_model.specs.Text.{Text}
use Rattle.wac_aggregator_promises.specs.Attempt.{Attempt}
use Rattle.wac_aggregator_promises.specs.Entries.{ReachesByUses}
use Rattle.wac_aggregator_promises.specs.Shared.{TakenIds}
use Rattle.wac_aggregator_promises.specs.WitList.{AreWit}
use Rattle.wac_aggregator_narrowing.specs.State.{State}
use Rattle.wac_aggregator_reasons.specs.Trial.{IsTrial, IsAccounted}
use Rattle.wac_aggregator_errors.specs.declared.error.AggregateError.{AggregateError}
use Rattle.wac_aggregator_taking.specs.Members.{HasTakenIn, HasAllOf, TakesMembers, IsMemberRefusal}
use Rattle.wac_aggregator_taking.specs.Refused.{IsRefusedBy}
use Rattle.wac_aggregator_taking.specs.Takes.{state_of, MayTake, IsNear, near_keys, AreNear, OpenlyFrom, TakesBy, IsTakenOwner}
use Rattle.wac_aggregator_taking.specs.declared.state.Merging.{Merging}
use Rattle.wac_aggregator_taking.specs.declared.steps.TakeStep.{TakeStep}
use Rattle.wac_aggregator_taking.specs.declared.steps.TakeStep.TheVariants.{Defined, Resource, Func, Module, Uses, UsesBy, AlikeBy, Exports, ExportsBy, WorldUses, WorldExports, Owner}

-- the id of the entry that a step is about, and the interface that is near to it
abbrev pub step_key : TakeStep → Key
step_key (Defined i) = defined_key i
step_key (Resource i) = resource_key i
step_key (Func i) = func_key i
step_key (Module i) = module_key i
step_key (Uses i at) = interface_key i
step_key (UsesBy i near at) = interface_key i
step_key (AlikeBy i near at) = interface_key i
step_key (Exports i at) = interface_key i
step_key (ExportsBy i near at) = interface_key i
step_key (WorldUses i at) = world_key i
step_key (WorldExports i at) = world_key i
step_key (Owner i) = resource_key i

abbrev pub step_near : TakeStep → Option Id
step_near (Defined i) = None
step_near (Resource i) = None
step_near (Func i) = None
step_near (Module i) = None
step_near (Uses i at) = None
step_near (UsesBy i near at) = Some near
step_near (AlikeBy i near at) = Some near
step_near (Exports i at) = None
step_near (ExportsBy i near at) = Some near
step_near (WorldUses i at) = None
step_near (WorldExports i at) = None
step_near (Owner i) = None

-- the step may be taken
abbrev pub MayStep : Collection → Merging → TakeStep → Type 0
MayStep f a s = Stands f (step_key s) × IsNear a (step_near s)

-- the id is one of an interface that reaches this one by uses
pub record IsReachedFrom (f : Collection) (k : Key) (i : Id) : Type 0 where
  pub from : Id
  pub at : k ≡ interface_key from
  pub walk : ReachesByUses f from i

-- the step is about one of these ids, with nothing near, or with this
pub record IsStepOf (ks : List Key) (near : Option Id) (s : TakeStep) : Type 0 where
  pub among : IsAmong (step_key s) ks
  pub by : (step_near s ≡ None) ⊎ (step_near s ≡ near)

-- such steps went last
pub record ArePut (ks : List Key) (near : Option Id) (ss ts : List TakeStep) : Type 0 where
  pub more : List TakeStep
  pub put : ts ≡ ss ++ more
  pub steps : All (IsStepOf ks near) more

-- what a step about an id leads to: a step about what that openly reaches, near to which is what is
-- near to the id, or what comes of it
pub record IsNext (f : Collection) (a : Merging) (k : Key) (near : Option Id) (s : TakeStep) : Type 0 where
  pub walk : OpenReaches f k (step_key s)
  pub own : IsNear a (step_near s)
  pub by : (at : Attempt) → IsAccounted at (state_of a) → AreNear at a (near_keys near) → AreNear at a (near_keys (step_near s))

-- such steps went last
pub record AreNext (f : Collection) (a : Merging) (k : Key) (near : Option Id) (ss ts : List TakeStep) : Type 0 where
  pub more : List TakeStep
  pub put : ts ≡ ss ++ more
  pub steps : All (IsNext f a k near) more

-- nothing but the imports is another
abbrev pub ImportsOnly : Merging → Merging → Type 0
ImportsOnly a b = b ≡ record a { imports = b.imports }

-- the owner, if there is one, was taken in, and is imported; or it is yet to be taken in
abbrev pub IsOwnerTold : Collection → Option Id → Option Id → State → Type 0
IsOwnerTold f owner None s = (own : Option Id) × IsTakenOwner f owner own s
IsOwnerTold f owner (Some o) s = owner ≡ Some o

-- the same of the owner of a resource
abbrev pub IsResourceTold : Collection → Id → Option Id → State → Type 0
IsResourceTold f r o s = IsOwnerTold f (owner_at f r) o s

-- the ids of resources whose owners are owed, if any are
abbrev pub owed_keys : Option (Vec Id Global) → List Key
owed_keys None = []
owed_keys (Some rs) = map resource_key rs.items

-- what a resource is another name of, if it is, was taken in; or it is this, which was not
abbrev pub LacksSource : Remembered → Option AliasContent → Option Id → Type 0
LacksSource m alias None = (a : AliasContent) → alias ≡ Some a → HasOwn m (resource_key a.source)
LacksSource m alias (Some s) = (a : AliasContent) × (alias ≡ Some a) × (a.source ≡ s)

-- the interface that is used at an index has an identifier, and was taken in
abbrev pub IsUseNoted : Collection → Remembered → List (Text × UseContent) → ℕ → Type 0
IsUseNoted f m us i = (name : Text) (u : UseContent) → slice_get us i ≡ Some (name, u) → HasIdentifier f u.interface × HasOwn m (interface_key u.interface)

-- each is
abbrev pub AreUsesNoted : Collection → Remembered → List (Text × UseContent) → Type 0
AreUsesNoted f m us = (i : ℕ) → IsUseNoted f m us i

-- all that an interface or a world uses and exports was taken in
pub record AreContentsNoted (f : Collection) (m : Remembered) (k : Key) : Type 0 where
  pub uses : AreUsesNoted f m (uses_at f k)
  pub exports : Each (HasOwn m) (named_keys item_keys (exports_at f k))

-- what each item from an index on to before another names was taken in
abbrev pub AreItemsNoted : Remembered → List ItemKind → ℕ → ℕ → Type 0
AreItemsNoted m ks from to = (i : ℕ) (k : ItemKind) → from ≤ i → i < to → slice_get ks i ≡ Some k → Each (HasOwn m) (item_keys k)

-- ---- from the start of a call on

-- these ids of f, near to which own ones are, are being taken in: from a on, now at b
pub record AreUnderWay (f : Collection) (near ks : List Key) (a b : Merging) : Type 0 where
  pub takes : TakesBy near f a b (keys_height f ks) ks (λ t. Unit {0})
  pub members : (i : Id) → ks ≡ interface_key i ∷ [] → (taken : TakenIds) → AreWit f (ReachesByUses f i) → HasTakenIn a taken → HasAllOf f a taken → TakesMembers f a b (ReachesByUses f i) taken

-- the step is about what these ids openly lead to, and what is near to it is open and comes from
-- sources if what was near at the start was so
pub record IsStepDue (f : Collection) (near ks : List Key) (a b : Merging) (s : TakeStep) : Type 0 where
  pub walk : OpenlyFrom f ks (step_key s)
  pub own : IsNear b (step_near s)
  pub by : (at : Attempt) → IsTrial at f ks → IsAccounted at (state_of a) → AreNear at a near → AreNear at b (near_keys (step_near s))

-- they are refused
pub record AreRefusedFrom (f : Collection) (near ks : List Key) (a : Merging) (e : AggregateError) : Type 0 where
  pub refused : IsRefusedBy near f a ks e
  pub members : (i : Id) → ks ≡ interface_key i ∷ [] → (taken : TakenIds) → AreWit f (ReachesByUses f i) → HasTakenIn a taken → HasAllOf f a taken → IsMemberRefusal f (ReachesByUses f i) taken e

-- what is answered between two steps: that they are under way, or why it is refused
abbrev pub AnswersOnWay : {T : Type 0} → Collection → List Key → List Key → Merging → Merging → Result T AggregateError → Type 0
AnswersOnWay f near ks a b answer = MatchResult answer (λ _. AreUnderWay f near ks a b) (AreRefusedFrom f near ks a)

-- the same, with steps left that are due
abbrev pub AnswersLeft : {T : Type 0} → Collection → List Key → List Key → Merging → Merging → List TakeStep → Result T AggregateError → Type 0
AnswersLeft f near ks a b ss answer = MatchResult answer (λ _. AreUnderWay f near ks a b × All (IsStepDue f near ks a b) ss) (AreRefusedFrom f near ks a)

-- what the item names was taken in, and the own item is of that
pub record IsOwnItem (m : Remembered) (kind own : ItemKind) : Type 0 where
  pub has : Each (HasOwn m) (item_keys kind)
  pub renamed : own ≡ renamed_item m kind

-- a turn from b to c, with these steps before and after it
abbrev pub GoesOnTaking : {T : Type 0} → Collection → List Key → List Key → Merging → List TakeStep → Merging → List TakeStep → Result T AggregateError → Type 0
GoesOnTaking f near ks b ss c ts answer = (a : Merging) → MayTake f a → IsSound f → AllStand f ks → AreUnderWay f near ks a b → All (IsStepDue f near ks a b) ss
    → AnswersLeft f near ks a c ts answer
