-- What taking in does to interfaces as WIT gives them: each is taken in by
-- the shared entry on its track.
use Rattle.std.specs.Prelude.{◌≡◌, ◌⊎◌, IsSome, Some, Contains, List, map, Result, MatchResult}
use Rattle.wac_component.specs.Collection.{Collection}
use Rattle.wac_component.specs.Id.{Id}
use Rattle.wac_component.specs.Implicit.{HasIdentifier}
use Rattle.wac_component.specs.Key.{interface_key}
use Rattle.wac_component.specs.Reach.{IsAmong}
use Rattle.wac_names.specs.Class.{Class, class_of}
use Rattle.wac_aggregator_promises.specs.Reason.{CallRefusal, mismatch, used_interface, used_name, cycle}
use Rattle.wac_aggregator_promises.specs.Shared.{TakenIds, SharedEntries, AreShared, CannotTake}
use Rattle.wac_aggregator_promises.specs.WitList.{AreWit}
use Rattle.wac_aggregator_memo.specs.Memo.{memo_of}
use Rattle.wac_aggregator_narrowing.specs.State.{IsOneWith}
use Rattle.wac_aggregator_narrowing.specs.Traced.{Root, Arrows, IsArrowed}
use Rattle.wac_aggregator_errors.specs.declared.error.AggregateError.{AggregateError}
use Rattle.wac_aggregator_errors.specs.Said.{said}
use Rattle.wac_aggregator_taking.specs.Takes.{shared_in, shared_keys}
use Rattle.wac_aggregator_taking.specs.declared.state.Merging.{Merging}

-- these interfaces, as starts of walks
abbrev pub roots_of : TakenIds → List Root
roots_of taken = map (λ (e : Collection × Id). record { of = e.0; at = interface_key e.1 }) taken

-- these interfaces were taken in, and are remembered: the shared entries have what is theirs, each
-- is found on its track, and walks between them lead from track to track as those of these do
pub record HasTakenIn (a : Merging) (taken : TakenIds) : Type 0 where
  pub shared : AreShared taken a.types (shared_in a.shared.entries)
  pub found : (e : Id) → IsAmong (interface_key e) (shared_keys a.shared.entries) → (t : Class) × (shared_in a.shared.entries t ≡ Some e)
  pub noted : (c : Collection) (i : Id) → Contains taken (c, i) → IsSome (memo_of a.taken (interface_key i))
  pub arrowed : IsArrowed a.types (shared_keys a.shared.entries) (roots_of taken)

-- of the interfaces of g that have an identifier, no others are remembered
abbrev pub HasAllOf : Collection → Merging → TakenIds → Type 0
HasAllOf g a taken = (i : Id) → i.number ≡ g.number → HasIdentifier g i → IsSome (memo_of a.taken (interface_key i)) → Contains taken (g, i)

-- the second has what the first has; what is new are interfaces of f, of this set
pub record AreMore (f : Collection) (P : Id → Type 0) (taken more : TakenIds) : Type 0 where
  pub old : (c : Collection) (i : Id) → Contains taken (c, i) → Contains more (c, i)
  pub new : (c : Collection) (i : Id) → Contains more (c, i) → Contains taken (c, i) ⊎ ((c ≡ f) × P i)

-- after these, interfaces of f of this set were taken in
pub record TakesMembers (f : Collection) (a b : Merging) (P : Id → Type 0) (taken : TakenIds) : Type 0 where
  pub more : TakenIds
  pub are_more : AreMore f P taken more
  pub has : HasTakenIn b more
  pub all : (g : Collection) → IsOneWith f g → HasAllOf g a taken → HasAllOf g b more

-- after these, an interface of f of this set can't be taken in: the shared entry on its track can't
-- take it in, or a track leads back to itself
pub data Hinders (f : Collection) (P : Id → Type 0) (taken : TakenIds) : Type 0 where
  at_entry : (own : Collection) (shared : SharedEntries) (i : Id) → AreShared taken own shared → P i → CannotTake own shared f i → Hinders f P taken
  in_cycle : (t : Class) → Arrows class_of (roots_of taken) t t → Hinders f P taken

-- that is so after these and more of f of this set
pub record IsNotTaken (f : Collection) (P : Id → Type 0) (taken : TakenIds) : Type 0 where
  pub more : TakenIds
  pub are_more : AreMore f P taken more
  pub hinders : Hinders f P more

-- it says that two entries can't be merged, or that one would lead back to itself
abbrev pub IsOfMerging : CallRefusal → Type 0
IsOfMerging mismatch = Unit {0}
IsOfMerging (used_interface used expected found) = Unit {0}
IsOfMerging (used_name used) = Unit {0}
IsOfMerging (cycle interface) = Unit {0}
IsOfMerging r = ⊥

-- then one of the set can't be
abbrev pub IsMemberRefusal : Collection → (Id → Type 0) → TakenIds → AggregateError → Type 0
IsMemberRefusal f P taken e = (r : CallRefusal) → said e ≡ Some r → IsOfMerging r → IsNotTaken f P taken

-- where the set is of interfaces as WIT gives them, and others were taken in
-- before, that is what is answered
abbrev pub AnswersMembers : {T : Type 0} → Result T AggregateError → Collection → Merging → Merging → (Id → Type 0) → Type 0
AnswersMembers answer f a b P = (taken : TakenIds) → AreWit f P → HasTakenIn a taken → HasAllOf f a taken → MatchResult answer (λ r. TakesMembers f a b P taken) (IsMemberRefusal f P taken)
