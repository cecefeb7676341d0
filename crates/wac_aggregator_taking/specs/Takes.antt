-- What taking in does to the state of merging.
use Rattle.std.specs.Prelude.{◌≡◌, ◌<◌, ◌⊎◌, ℕ, Bool, IsTrue, List, [], ◌∷◌, Contains, Option, Some, None, IsSome, map, slice_get}
use Rattle.std.specs.List.{flat_map}
use Rattle.std.specs.Map.{lookup}
use Rattle.std.specs.Option.{option_and_then}
use Rattle.wac_model.specs.Text.{Text}
use Rattle.wac_component.specs.Collection.{Collection, AliasContent, UseContent, InterfaceContent, WorldContent}
use Rattle.wac_component.specs.Entries.{identifier_at, owner_at}
use Rattle.wac_component.specs.Growth.{Extends}
use Rattle.wac_component.specs.Height.{height, keys_height}
use Rattle.wac_component.specs.Id.{Id}
use Rattle.wac_component.specs.Implicit.{HasIdentifier}
use Rattle.wac_component.specs.Key.{Key, Each, Stands, AllStand, alias_keys, item_keys, optional_keys, resource_key, interface_key, world_key}
use Rattle.wac_component.specs.Open.{open_next, OpenReaches}
use Rattle.wac_component.specs.Reach.{IsAmong}
use Rattle.wac_component.specs.Tree.{root_name}
use Rattle.wac_component.specs.declared.items.ItemKind.{ItemKind}
use Rattle.wac_component.specs.declared.items.ItemKind.TheVariants.{Instance}
use Rattle.wac_names.specs.Class.{Class, class_eq, class_of}
use Rattle.wac_aggregator_promises.specs.Attempt.{Attempt}
use Rattle.wac_aggregator_promises.specs.PlainList.{ArePlain}
use Rattle.wac_aggregator_narrowing.specs.Entering.{InterfaceIsTaken}
use Rattle.wac_aggregator_narrowing.specs.Identified.{IsCovered}
use Rattle.wac_aggregator_narrowing.specs.Remembers.{RemembersTruly}
use Rattle.wac_aggregator_narrowing.specs.State.{State, IsStateKept, IsOneWith, RunsTaking}
use Rattle.wac_aggregator_narrowing.specs.Taking.{AreMapped, AreTakenKeys, IsTakenKey, IsTakenItem}
use Rattle.wac_aggregator_narrowing.specs.Values.{IfAny}
use Rattle.wac_aggregator_reasons.specs.Split.{AddsSharedOrBelow}
use Rattle.wac_aggregator_reasons.specs.Trial.{IsTrial, IsAccounted, IsOpenSource, StaysAccounted}
use Rattle.wac_aggregator_memo.specs.Memo.{memo_of}
use Rattle.wac_aggregator_imports.specs.Import.{ImportContent, import_of, import_at}
use Rattle.wac_aggregator_taking.specs.declared.state.Merging.{Merging}

-- the shared entries
abbrev pub shared_keys : List (Class × Id) → List Key
shared_keys ss = map (λ e. interface_key e.1) ss

-- the state that the laws of merging speak of
abbrev pub state_of : Merging → State
state_of a = record { own = a.types; shared = shared_keys a.shared.entries; imports = import_at a.imports; taken = memo_of a.taken; copies = memo_of a.copies }

-- the shared entry of a class, if there is one
abbrev pub shared_in : List (Class × Id) → Class → Option Id
shared_in ss q = lookup (class_eq q) ss

-- what is found under a class has an identifier on it, and each shared entry is found
pub record AreFiledIn (c : Collection) (ss : List (Class × Id)) : Type 0 where
  pub on_class : (q : Class) (i : Id) → shared_in ss q ≡ Some i → (n : Text) × (identifier_at c (interface_key i) ≡ Some n) × (class_of n ≡ q)
  pub found : (i : Id) → IsAmong (interface_key i) (shared_keys ss) → (q : Class) × (shared_in ss q ≡ Some i)

-- entries of f, which is not the own collection, may be taken in
pub record MayTake (f : Collection) (a : Merging) : Type 0 where
  pub apart : ¬ (f.number ≡ a.types.number)
  pub kept : IsStateKept (state_of a)
  pub truly : RemembersTruly class_of f (state_of a)
  pub filed : AreFiledIn a.types a.shared.entries

-- an own entry stands, and openly leads to shared ones alone
abbrev pub IsOwnEntry : Merging → Key → Type 0
IsOwnEntry a k = Stands a.types k × IsCovered a.types (shared_keys a.shared.entries) k

-- the interface that is merged with, if there is one, is such an entry
abbrev pub IsNear : Merging → Option Id → Type 0
IsNear a near = (i : Id) → near ≡ Some i → IsOwnEntry a (interface_key i)

-- its id
abbrev pub near_keys : Option Id → List Key
near_keys near = optional_keys (λ i. interface_key i ∷ []) near

-- these own entries stand, are open, and come from sources
pub record AreNear (at : Attempt) (a : Merging) (ks : List Key) : Type 0 where
  pub stand : AllStand a.types ks
  pub opens : Each (IsOpenSource at (state_of a)) ks

-- the interface is a shared entry, or was near
abbrev pub IsNearest : Merging → Option Id → Option Id → Type 0
IsNearest a near nearest = (i : Id) → nearest ≡ Some i → (near ≡ Some i) ⊎ IsAmong (interface_key i) (shared_keys a.shared.entries)

-- the near interface's entry names each of these ids
abbrev pub NearNames : Collection → Option Id → List Key → Type 0
NearNames c near ks = (i : Id) × (near ≡ Some i) × ((k : Key) → IsAmong k ks → IsAmong k (open_next c (interface_key i)))

-- an open walk leads from one of the ids to this one
abbrev pub OpenlyFrom : Collection → List Key → Key → Type 0
OpenlyFrom f ks t = (k : Key) × IsAmong k ks × OpenReaches f k t

-- so it does from these to each of those
abbrev pub AreWithin : Collection → List Key → List Key → Type 0
AreWithin f ks js = (k : Key) → IsAmong k ks → OpenlyFrom f js k

-- the id openly leads to a resource whose owner has this identifier
pub record LeadsToOwner (f : Collection) (k : Key) (n : Text) : Type 0 where
  pub resource : Id
  pub owner : Id
  pub walk : OpenReaches f k (resource_key resource)
  pub owned : owner_at f resource ≡ Some owner
  pub identified : identifier_at f (interface_key owner) ≡ Some n

-- each owner to which an id that was taken in openly leads has an import
-- on the track of its identifier
abbrev pub OwnersImported : Collection → State → Type 0
OwnersImported g s = (theirs own : Key) (n : Text) → s.taken theirs ≡ Some own → theirs.id.number ≡ g.number → LeadsToOwner g theirs n → IsSome (s.imports n)

-- an import on the track of an owner to which the ids openly lead: an instance of a shared
-- entry, under the identifier of that
pub record IsOwnersImport (f : Collection) (ks : List Key) (b : Merging) (q : Class) (import : ImportContent) : Type 0 where
  pub from : Key
  pub among : IsAmong from ks
  pub owner_name : Text
  pub leads : LeadsToOwner f from owner_name
  pub on_track : class_of owner_name ≡ q
  pub entry : Id
  pub is_shared : IsAmong (interface_key entry) (shared_keys b.shared.entries)
  pub named : identifier_at b.types (interface_key entry) ≡ Some import.0
  pub item : import.1 ≡ Instance entry

-- a shared entry with the identifier of an interface to which the ids openly lead
pub record IsSharedFrom (f : Collection) (ks : List Key) (b : Merging) (e : Key) : Type 0 where
  pub theirs : Key
  pub name : Text
  pub walk : OpenlyFrom f ks theirs
  pub identified : identifier_at f theirs ≡ Some name
  pub own_identified : identifier_at b.types e ≡ Some name

-- each interface with an identifier to which the ids openly lead was taken in
abbrev pub AreKnown : Collection → Merging → List Key → Type 0
AreKnown f a ks = (t : Key) (n : Text) → OpenlyFrom f ks t → identifier_at f t ≡ Some n → (own : Key) × (memo_of a.taken t ≡ Some own)

-- entries were added to the own collection, and those that stood are as they were; no entry is
-- shared that wasn't, and what is noted anew has no identifier
pub record OnlyGrows (f : Collection) (a b : Merging) : Type 0 where
  pub grows : Extends a.types b.types
  pub shared : b.shared.entries ≡ a.shared.entries
  pub noted : (k o : Key) → memo_of b.taken k ≡ Some o → (memo_of a.taken k ≡ Some o) ⊎ ((k.id.number ≡ f.number) × (identifier_at f k ≡ None))

-- what taking in from f does: the state runs on to one of which the fact holds, and no id above the
-- height is noted; each owner is imported still. What is imported stays; what is new is an owner to
-- which the ids openly lead, and each new shared entry has the identifier of an interface to which
-- they do; each other new interface with an identifier is below an import of a component. Where the
-- ids are plain, nothing is imported; where all was taken in that they openly lead to and that has
-- an identifier, entries are only added. While a call is tried whose item openly reaches the ids,
-- and what is near is open and comes from sources, all stays accounted for
pub record TakesBy (near : List Key) (f : Collection) (a b : Merging) (top : ℕ) (ks : List Key) (Holds : State → Type 0) : Type 0 where
  pub low : (k : Key) → top < height f k → memo_of a.taken k ≡ None → memo_of b.taken k ≡ None
  pub run : RunsTaking (RemembersTruly class_of) f (state_of a) (state_of b)
  pub filed : AreFiledIn b.types b.shared.entries
  pub owners : (g : Collection) → IsOneWith f g → OwnersImported g (state_of a) → OwnersImported g (state_of b)
  pub led : b.imports.led ≡ a.imports.led
  pub stays : (q : Class) (i : ImportContent) → import_of a.imports q ≡ Some i → import_of b.imports q ≡ Some i
  pub due : (q : Class) (i : ImportContent) → import_of b.imports q ≡ Some i → (import_of a.imports q ≡ Some i) ⊎ IsOwnersImport f ks b q i
  pub shares : (e : Key) → IsAmong e (shared_keys b.shared.entries) → IsAmong e (shared_keys a.shared.entries) ⊎ IsSharedFrom f ks b e
  pub identified : AddsSharedOrBelow (state_of a) (state_of b)
  pub plain : ArePlain f ks → b.imports ≡ a.imports
  pub known : AreKnown f a ks → OnlyGrows f a b
  pub accounts : (at : Attempt) → IsTrial at f ks → IsAccounted at (state_of a) → AreNear at a near → StaysAccounted at (state_of a) (state_of b)
  pub holds : Holds (state_of b)

-- the same, where nothing is near
abbrev pub Takes : Collection → Merging → Merging → ℕ → List Key → (State → Type 0) → Type 0
Takes f a b top ks Holds = TakesBy [] f a b top ks Holds

-- the entry of an id is taken in, from below its height
abbrev pub TakesEntry : List Key → Collection → Merging → Merging → Key → (State → Type 0) → Type 0
TakesEntry near f a b k Holds = TakesBy near f a b (height f k) (k ∷ []) Holds

-- and becomes an own entry
abbrev pub TakesEntryAs : Collection → Merging → Merging → Key → Key → Type 0
TakesEntryAs f a b k own = TakesEntry [] f a b k (λ t. IsTakenKey class_of f t k own)

-- what is named by ids is taken in, from below their height
abbrev pub TakesKeys : List Key → Collection → Merging → Merging → List Key → (State → Type 0) → Type 0
TakesKeys near f a b ks Holds = TakesBy near f a b (keys_height f ks) ks Holds

-- those of an item are, and it becomes an own one
abbrev pub TakesItemAs : List Key → Collection → Merging → Merging → ItemKind → ItemKind → Type 0
TakesItemAs near f a b kind own = TakesKeys near f a b (item_keys kind) (λ t. IsTakenItem class_of f t kind own)

-- or what it names is
abbrev pub TakesBelow : List Key → Collection → Merging → Merging → Key → Type 0
TakesBelow near f a b k = TakesEntry near f a b k (λ t. Unit {0})

-- an own interface is imported for each id that leads to an owner with an identifier on its track
abbrev pub ImportsOwnOwner : Merging → Merging → Id → Type 0
ImportsOwnOwner a b own = (f : Collection) (ks : List Key) (from : Key) (n m : Text) → MayTake f a → IsAmong from ks → LeadsToOwner f from n
    → identifier_at a.types (interface_key own) ≡ Some m → class_of m ≡ class_of n → Takes f a b 0 ks (λ t. IsSome (t.imports n))

-- what the resource is another name of, if it is
abbrev pub alias_at : Collection → Id → Option AliasContent
alias_at c r = option_and_then (λ e. e.alias) (slice_get c.resources r.index)

-- an owner with an identifier is imported, on its track
abbrev pub IsOwnerImported : Collection → State → Option Id → Type 0
IsOwnerImported f s o = (i : Id) (n : Text) → o ≡ Some i → identifier_at f (interface_key i) ≡ Some n → IsSome (s.imports n)

-- the own alias names what was taken in for what the foreign one names; its source has the same
-- name at the root, and its owner is imported
pub record IsTakenAlias (f : Collection) (s : State) (a b : AliasContent) : Type 0 where
  pub keys : AreTakenKeys class_of f s (alias_keys a) (alias_keys b)
  pub source : root_name s.own b.source ≡ root_name f a.source
  pub owner : IsOwnerImported f s a.owner

-- the own owner was taken in for the foreign one, if there is one, and is imported
pub record IsTakenOwner (f : Collection) (o r : Option Id) (s : State) : Type 0 where
  pub taken : IfAny (λ a b. IsTakenKey class_of f s (interface_key a) (interface_key b)) o r
  pub imported : IsOwnerImported f s o

-- the owners of these resources
abbrev pub owners_keys : Collection → List Id → List Key
owners_keys f rs = flat_map (λ r. optional_keys (λ o. interface_key o ∷ []) (owner_at f r)) rs

-- the owner of each of these resources was taken in, and is imported
abbrev pub AreOwnersTaken : Collection → List Id → State → Type 0
AreOwnersTaken f rs s = (r : Id) → Contains rs r → (o : Option Id) × IsTakenOwner f (owner_at f r) o s

-- the owners of resources are taken in, if all of them may be told
abbrev pub TakesOwners : Collection → Merging → Merging → List Id → Bool → Type 0
TakesOwners f a b rs all = Takes f a b 0 (map resource_key rs) (λ t. IsTrue all → AreOwnersTaken f rs t)

-- the own use is of what was taken in for the interface, which has an
-- identifier, under the same name
pub record IsOwnUse (f : Collection) (s : State) (u v : UseContent) : Type 0 where
  pub name : v.name ≡ u.name
  pub identified : HasIdentifier f u.interface
  pub interface : IsTakenKey class_of f s (interface_key u.interface) (interface_key v.interface)

-- all that the foreign interface names was taken in, as what these
-- use and export; it was not itself
pub record MayPut (f : Collection) (a : Merging) (p : Id) (us : List (Text × UseContent)) (es : List (Text × ItemKind)) : Type 0 where
  pub content : InterfaceContent
  pub taken : InterfaceIsTaken class_of f (state_of a) p content (record { id = None; uses = us; exports = es })
  pub used : AreMapped (IsOwnUse f (state_of a)) content.uses us
  pub absent : memo_of a.taken (interface_key p) ≡ None

-- all that the foreign world uses and exports was taken in, as what these do; it was not itself
pub record MayPutWorld (f : Collection) (a : Merging) (p : Id) (us : List (Text × UseContent)) (es : List (Text × ItemKind)) : Type 0 where
  pub content : WorldContent
  pub entry : slice_get f.worlds p.index ≡ Some content
  pub used : AreMapped (IsOwnUse f (state_of a)) content.uses us
  pub exported : AreMapped (IsTakenItem class_of f (state_of a)) content.exports es
  pub absent : memo_of a.taken (world_key p) ≡ None
