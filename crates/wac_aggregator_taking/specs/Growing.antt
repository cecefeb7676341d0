-- What becomes of the exports of a shared entry.
use Rattle.std.specs.Prelude.{◌≡◌, ◌++◌, All, List, [], ◌∷◌, Contains, Option, Some, None, Result, slice_get}
use Rattle.std.specs.declared.alloc.AllocError.{AllocError}
use Rattle.std.specs.Option.{option_map}
use Rattle.std.specs.Str.{bytes_eq}
use Rattle.indexmap.specs.IndexMap.{insert_entry}
use Rattle.wac_model.specs.CoreTree.{Serves}
use Rattle.wac_model.specs.Text.{Text, lookup}
use Rattle.wac_model.specs.ItemTree.{ItemTree}
use Rattle.wac_model.specs.Order.{Fits}
use Rattle.wac_bounds.specs.Bounds.{IsLowerBound}
use Rattle.wac_bounds.specs.MeetIn.{IsMeetIn}
use Rattle.wac_component.specs.Collection.{Collection, InterfaceContent, UseContent}
use Rattle.wac_component.specs.Distinct.{HasDistinctNames}
use Rattle.wac_component.specs.Entries.{identifier_at}
use Rattle.wac_component.specs.Growth.{Extends}
use Rattle.wac_component.specs.Id.{Id}
use Rattle.wac_component.specs.Key.{Key, Each, Stands, AllStand, item_keys, interface_entry, interface_key, interface_keys, named_keys, use_keys}
use Rattle.wac_component.specs.Replacing.{NamesReach}
use Rattle.wac_component.specs.Tree.{item_tree}
use Rattle.wac_component.specs.declared.items.ItemKind.{ItemKind}
use Rattle.wac_checker_parts.specs.Externs.{AreServed}
use Rattle.wac_merge.specs.Items.{ExternKinds, extern_keys}
use Rattle.wac_merge.specs.Built.{Builds, IsBuilt, uses_of_both}
use Rattle.wac_merge.specs.Reads.{exports_at}
use Rattle.wac_names.specs.Class.{Class}
use Rattle.wac_aggregator_promises.specs.Attempt.{Attempt}
use Rattle.wac_aggregator_narrowing.specs.Apart.{IsGood}
use Rattle.wac_aggregator_narrowing.specs.State.{State, IsStateKept}
use Rattle.wac_aggregator_narrowing.specs.Traced.{Root, LeadsAlongArrows}
use Rattle.wac_aggregator_reasons.specs.Trial.{IsAccounted, IsOpenItem, AreOpenItems, StaysAccounted}
use Rattle.wac_aggregator_narrowing.specs.Identified.{IsCovered}
use Rattle.wac_aggregator_narrowing.specs.Narrows.{IsGoodStep, grown}

-- d is c with entries added to it, none of which has an identifier: a step whatever is shared
pub record StepsOn (c d : Collection) : Type 0 where
  pub grows : Extends c d
  pub identified : (k : Key) (n : Text) → Stands d k → identifier_at d k ≡ Some n → Stands c k
  pub steps : (ss : List Key) → IsGood c ss → IsGoodStep c ss d ss

-- the state with another own collection
abbrev pub with_own : State → Collection → State
with_own s c = record s { own = c }

-- each item of the list may be exported under its name, comes from sources, and is open
abbrev pub AreAllOpen : Attempt → State → ExternKinds → Type 0
AreAllOpen at s es = (name : Text) (x : ItemKind) → Contains es (name, x) → IsOpenItem at s name x

-- all stays accounted for, with the same roots
pub record StaysAlong (at : Attempt) (s t : State) (all : IsAccounted at s) : Type 0 where
  pub stays : StaysAccounted at s t
  pub roots : stays.now.roots ≡ all.roots

-- in d stands the greatest item that fits where either of two items of c is asked for,
-- which is the first where that fits where the second is; it leads openly to shared
-- interfaces alone where both do
pub record IsOwnMeet (c d : Collection) (a b m : ItemKind) : Type 0 where
  pub on : StepsOn c d
  pub stands : AllStand d (item_keys m)
  pub answer : Result (Option ItemKind) AllocError
  pub builds : Builds c d a b answer
  pub built : IsBuilt c d builds.origins a b m
  pub fits_first : Fits (item_tree d m) (item_tree c a)
  pub fits_second : Fits (item_tree d m) (item_tree c b)
  pub greatest : (t : ItemTree) → Fits t (item_tree c a) → Fits t (item_tree c b) → Fits t (item_tree d m)
  pub kept : Fits (item_tree c a) (item_tree c b) → m ≡ a
  pub covered : (ss : List Key) → IsGood c ss → Each (IsCovered c ss) (item_keys a) → Each (IsCovered c ss) (item_keys b) → Each (IsCovered d ss) (item_keys m)

-- no item fits where both of two items are asked for
abbrev pub AreApartIn : Collection → ItemKind → ItemKind → Type 0
AreApartIn c a b = (t : ItemTree) → ¬ (IsLowerBound t (item_tree c a ∷ item_tree c b ∷ []))

-- such an item; or there is none, and entries were only added
abbrev pub IsMetIfAny : Collection → Collection → ItemKind → ItemKind → Option ItemKind → Type 0
IsMetIfAny c d a b (Some m) = IsOwnMeet c d a b m
IsMetIfAny c d a b None = Extends c d × AreApartIn d a b

-- the same of named items: under each name the greatest that serves both lists, and under a name of
-- the first alone what it had. Where those are open and come from sources, these are and do so, and
-- all stays accounted for; and they lead along arrows
pub record AreMetWith (c d : Collection) (es ts ms : ExternKinds) : Type 0 where
  pub on : StepsOn c d
  pub stand : AllStand d (extern_keys ms)
  pub serve_first : AreServed d c ms es
  pub serve_second : AreServed d c ms ts
  pub meets : (name : Text) → IsMeetIn (Serves Fits) (option_map (item_tree c) (lookup bytes_eq es name)) (option_map (item_tree c) (lookup bytes_eq ts name)) (Some (option_map (item_tree d) (lookup bytes_eq ms name)))
  pub others : (name : Text) → lookup bytes_eq ts name ≡ None → lookup bytes_eq ms name ≡ lookup bytes_eq es name
  pub accounts : (at : Attempt) (s : State) → IsStateKept (with_own s c) → (all : IsAccounted at (with_own s c)) → AreOpenItems at (with_own s c) es → AreAllOpen at (with_own s c) ts → StaysAlong at (with_own s c) (with_own s d) all × AreOpenItems at (with_own s d) ms
  pub along : (ss : List Key) (rs : List Root) (from : Class) → IsGood c ss → Each (LeadsAlongArrows c ss rs from) (extern_keys es) → Each (LeadsAlongArrows c ss rs from) (extern_keys ts) → Each (LeadsAlongArrows d ss rs from) (extern_keys ms)
  pub covered : (ss : List Key) → IsGood c ss → Each (IsCovered c ss) (extern_keys es) → Each (IsCovered c ss) (extern_keys ts) → Each (IsCovered d ss) (extern_keys ms)

-- m stands for the item among whatever items: those that are under its name what the interface
-- exports there are met with it when m is put there
abbrev pub IsMetThere : Collection → Collection → Id → Text → ItemKind → ItemKind → Type 0
IsMetThere c d e n a m = (es : ExternKinds) → AllStand c (extern_keys es) → lookup bytes_eq es n ≡ lookup bytes_eq (exports_at c (interface_key e)) n → AreMetWith c d es ((n, a) ∷ []) (insert_entry bytes_eq es n m)

-- the list once these items are put under their names: in the place of what stands there, else last
abbrev pub with_put : ExternKinds → ExternKinds → ExternKinds
with_put es [] = es
with_put es (m ∷ ms) = with_put (insert_entry bytes_eq es m.0 m.1) ms

-- so each of these is what stands under its name
abbrev pub AreAllPut : ExternKinds → ExternKinds → Type 0
AreAllPut es ms = All (λ (m : Text × ItemKind). lookup bytes_eq (with_put es ms) m.0 ≡ Some m.1) ms

-- in d the interface uses and exports this as well, from which no walk leads back to it
pub record IsGrownBy (c : Collection) (e : Id) (us : List (Text × UseContent)) (ms : ExternKinds) (d : Collection) : Type 0 where
  pub old : InterfaceContent
  pub new : InterfaceContent
  pub was : slice_get c.interfaces e.index ≡ Some old
  pub same_identifier : new.id ≡ old.id
  pub uses : new.uses ≡ uses_of_both old.uses us
  pub exports : new.exports ≡ with_put old.exports ms
  pub distinct : HasDistinctNames (interface_entry new)
  pub acyclic : ¬ (NamesReach c (interface_keys new) (interface_key e))
  pub grows : d ≡ grown c e new

-- met with what the interface exports, these are put there
abbrev pub AreMetInto : Collection → Collection → Id → ExternKinds → ExternKinds → Type 0
AreMetInto c d own ts ms = AreMetWith c d (exports_at c (interface_key own)) ts (with_put (exports_at c (interface_key own)) ms)

-- the ids in uses and in items
abbrev pub put_keys : List (Text × UseContent) → ExternKinds → List Key
put_keys us es = named_keys use_keys us ++ extern_keys es
