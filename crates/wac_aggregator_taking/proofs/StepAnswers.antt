-- What steps answer: their parts put together.
use Rattle.std.proofs.Common.{◌≡◌, ◌≤◌, ◌<◌, ◌++◌, ℕ, zero, suc, inl, inr, List, [], ◌∷◌, Option, String, Global, Some, None, Result, Ok, Err, length, slice_get, slice_index_or, true, false, refl, ap, sym, subst, ◌∙◌, arith}
use Rattle.std.specs.Option.{is_some, option_map, option_map_or}
use Rattle.std.specs.Result.{MatchResult}
use Rattle.wac_model.specs.Text.{Text}
use Rattle.wac_component.specs.Collection.{Collection, AliasContent, DefinedContent, FuncContent, UseContent, InterfaceContent, WorldContent}
use Rattle.wac_component.specs.Content.{named, types_of, use_content}
use Rattle.wac_component.specs.declared.interfaces.UsedType.{UsedType}
use Rattle.wac_component.specs.declared.items.ItemKind.{ItemKind}
use Rattle.wac_component.specs.Entries.{identifier_at, owner_at, entry_uses, entry_exports}
use Rattle.wac_aggregator_memo.specs.EntryOrder.{HasOwn}
use Rattle.wac_component.specs.Height.{height}
use Rattle.wac_component.specs.Id.{Id}
use Rattle.wac_component.specs.Key.{Key, Each, Stands, entry_keys, other_keys, interface_sort, next, optional_keys, named_keys, use_keys, item_keys, interface_keys, defined_entry, func_entry, defined_key, func_key, resource_key, interface_key, world_key, alias_keys}
use Rattle.wac_aggregator_memo.specs.Memo.{AddsPair, Remembered, memo_of}
use Rattle.wac_aggregator_memo.specs.declared.memo.Memo.{Memo}
use Rattle.wac_component.specs.Open.{open_next, OpenReaches, stay, step}
use Rattle.wac_component.specs.Reach.{IsAmong, here, there}
use Rattle.wac_component.specs.Sound.{IsSound}
use Rattle.wac_component.proofs.Among.{among_each, among_either, among_right, among_single}
use Rattle.wac_component.proofs.Lists.{slice_get-map}
use Rattle.wac_component.proofs.OpenWalks.{open_in_next}
use Rattle.wac_component.proofs.Reading.{interface_at, world_at}
use Rattle.wac_aggregator_alike.proofs.MadeOf.{IsTypeKey, no_identifier}
use Rattle.wac_aggregator_promises.specs.Shared.{TakenIds}
use Rattle.wac_aggregator_narrowing.specs.State.{State}
use Rattle.wac_aggregator_narrowing.specs.Values.{neither}
use Rattle.wac_aggregator_errors.specs.declared.error.AggregateError.{AggregateError}
use Rattle.wac_aggregator_errors.proofs.Saying.{not_memory}
use Rattle.wac_aggregator_taking.specs.Members.{AnswersMembers, HasTakenIn, TakesMembers}
use Rattle.wac_aggregator_taking.specs.Refused.{IsRefusedBy, MayRefuse}
use Rattle.wac_aggregator_taking.specs.Steps.{IsReachedFrom, ImportsOnly, IsOwnerTold, AreUsesNoted, AreContentsNoted}
use Rattle.wac_aggregator_taking.specs.Takes.{MayTake, AreWithin, OnlyGrows, TakesBy, Takes, alias_at}
use Rattle.wac_aggregator_taking.specs.declared.state.Merging.{Merging}
use Rattle.wac_aggregator_taking.proofs.Identifiers.{is_interface}
use Rattle.wac_aggregator_taking.proofs.Made.{parts_known}
use Rattle.wac_aggregator_taking.proofs.Members.{TakesMembers-grown, TakesMembers-then, member_refused_after}
use Rattle.wac_aggregator_taking.proofs.Plain.{used_named}
use Rattle.wac_aggregator_taking.proofs.Refusals.{refused_later, refused_apart}
use Rattle.wac_aggregator_taking.proofs.StepLemmas.{members_grown, members_unidentified, imports_grow}
use Rattle.wac_aggregator_taking.proofs.TakeLemmas.{Takes-after, Takes-apart, Takes-more}
use Rattle.wac_aggregator_taking.proofs.Within.{within_all, within_trans, within_left, within_right, within_parts, within_used, within_named, alias_within, owned_within}

-- ---- owners

-- a resource without owner
pub no_owner_told : (f : Collection) (s : State) (o : Option Id) → None ≡ o → IsOwnerTold f o None s
no_owner_told f s None none = (None, record { taken = neither; imported = λ i n is named. absurd (let no : None ≡ Some i = is in cc) })
no_owner_told f s (Some i) none = absurd (let no : None ≡ Some i = none in cc)

-- the owner of a resource was looked for
module _ (f : Collection) (a b : Merging) (r : Id) (o : Option Id) (may : MayTake f a) (g : Takes f a b 0 (resource_key r ∷ []) (IsOwnerTold f (owner_at f r) o)) (others : ImportsOnly a b) where
  pub owner_takes : Takes f a b (height f (resource_key r)) (resource_key r ∷ []) (λ t. Unit {0})
  owner_takes = Takes-more f a b 0 (height f (resource_key r)) (resource_key r ∷ []) (resource_key r ∷ []) (IsOwnerTold f (owner_at f r) o) (λ t. Unit {0}) (omega arith) (within_all f (resource_key r ∷ [])) may (λ t kept q. tt) g

  pub owner_members : (taken : TakenIds) → HasTakenIn a taken → TakesMembers f a b (IsReachedFrom f (resource_key r)) taken
  owner_members taken has = TakesMembers-grown f a b (IsReachedFrom f (resource_key r)) taken may.kept g.run (imports_grow f a b others) has

-- imports alone, and then imports alone
pub imports_then : (a b c : Merging) → ImportsOnly a b → ImportsOnly b c → ImportsOnly a c
imports_then a b c g h = h ∙ ap (λ (m : Merging). record m { imports = c.imports }) g

-- nothing where none is found
pub none_told : (o : Option Id) → is_some o ≡ false → o ≡ None
none_told None h = refl
none_told (Some i) h = absurd (cc)

-- ---- walks

-- an id that is not one of an interface has no identifier
pub no_interface : (f : Collection) (k : Key) → ¬ (k.sort ≡ interface_sort) → identifier_at f k ≡ None
no_interface f k other = by (identifier_at f k) refl
  where
    by : (o : Option _) → identifier_at f k ≡ o → identifier_at f k ≡ None
    by None is = is
    by (Some n) is = absurd (other (ap (λ (j : Key). j.sort) (is_interface f k n is)))

-- what an entry names it openly names, where it imports nothing
pub next_opens : (f : Collection) (k : Key) → next f k ≡ open_next f k → (j : Key) → IsAmong j (k ∷ next f k) → OpenReaches f k j
next_opens f k same _ here = stay
next_opens f k same j (there m) = step (subst (IsAmong j) same m) stay

-- so it is of types
pub defined_opens : (f : Collection) (p : Id) → next f (defined_key p) ≡ open_next f (defined_key p)
defined_opens f p = ap (optional_keys entry_keys) (slice_get-map defined_entry f.defined p.index) ∙ by (slice_get f.defined p.index) ∙ sym (ap (optional_keys other_keys) (slice_get-map defined_entry f.defined p.index))
  where
    by : (o : Option DefinedContent) → optional_keys entry_keys (option_map defined_entry o) ≡ optional_keys other_keys (option_map defined_entry o)
    by None = refl
    by (Some x) = refl

pub func_opens : (f : Collection) (p : Id) → next f (func_key p) ≡ open_next f (func_key p)
func_opens f p = ap (optional_keys entry_keys) (slice_get-map func_entry f.funcs p.index) ∙ by (slice_get f.funcs p.index) ∙ sym (ap (optional_keys other_keys) (slice_get-map func_entry f.funcs p.index))
  where
    by : (o : Option FuncContent) → optional_keys entry_keys (option_map func_entry o) ≡ optional_keys other_keys (option_map func_entry o)
    by None = refl
    by (Some x) = refl

-- walks from one id
pub walk_within : (f : Collection) (k : Key) (ks : List Key) → AreWithin f ks (k ∷ []) → (j : Key) → IsAmong j ks → OpenReaches f k j
walk_within f k ks within j m = let w = within j m in subst (λ i. OpenReaches f i j) (among_single k w.1) w.2

pub walk_more : (f : Collection) (k : Key) (ks : List Key) → AreWithin f ks (k ∷ []) → (j : Key) → IsAmong j (k ∷ ks) → OpenReaches f k j
walk_more f k ks within _ here = stay
walk_more f k ks within j (there m) = walk_within f k ks within j m

-- the owner of a resource, and what it is another name of
pub owner_walk : (f : Collection) (r o : Id) → owner_at f r ≡ Some o → OpenReaches f (resource_key r) (interface_key o)
owner_walk f r o owned = walk_within f (resource_key r) (interface_key o ∷ []) (owned_within f r o owned) (interface_key o) here

pub source_walk : (f : Collection) (r : Id) (x : AliasContent) → alias_at f r ≡ Some x → OpenReaches f (resource_key r) (resource_key x.source)
source_walk f r x is = walk_within f (resource_key r) (alias_keys x) (alias_within f r x is) (resource_key x.source) (among_right (optional_keys (λ o. interface_key o ∷ []) x.owner) (resource_key x.source ∷ []) here)

-- ---- an entry is made

module _ (f : Collection) (a b : Merging) (k : Key) where
  pub made_grows : IsSound f → MayTake f a → Stands f k → ¬ (k.sort ≡ interface_sort) → Each (HasOwn (memo_of a.taken)) (next f k) → Takes f a b (height f k) (k ∷ []) (λ t. Unit {0}) → OnlyGrows f a b
  made_grows sound may st other has h = h.known (parts_known f a k sound may st (no_interface f k other) (λ j m. among_each (HasOwn (memo_of a.taken)) j (next f k) (open_in_next f k j m) has))

  pub made_members : (r : Result (Unit {0}) AggregateError) → IsSound f → MayTake f a → Stands f k → ¬ (k.sort ≡ interface_sort) → Each (HasOwn (memo_of a.taken)) (next f k)
      → MatchResult r (λ u. Takes f a b (height f k) (k ∷ []) (λ t. Unit {0})) (MayRefuse f a (k ∷ [])) → AnswersMembers r f a b (IsReachedFrom f k)
  made_members (Ok u) sound may st other has h = members_grown f a b k u may.kept h.run (made_grows sound may st other has h)
  made_members (Err e) sound may st other has h = members_unidentified f a b k (Unit {0}) e (λ s says. (h (not_memory e s says)).known (parts_known f a k sound may st (no_interface f k other) (λ j m. among_each (HasOwn (memo_of a.taken)) j (next f k) (open_in_next f k j m) has)) s says)

  -- the same of what it openly names
  pub opened_members : (r : Result (Unit {0}) AggregateError) → IsSound f → MayTake f a → Stands f k → ¬ (k.sort ≡ interface_sort) → ((j : Key) → IsAmong j (open_next f k) → HasOwn (memo_of a.taken) j)
      → MatchResult r (λ u. Takes f a b (height f k) (k ∷ []) (λ t. Unit {0})) (MayRefuse f a (k ∷ [])) → AnswersMembers r f a b (IsReachedFrom f k)
  opened_members (Ok u) sound may st other has h = members_grown f a b k u may.kept h.run (h.known (parts_known f a k sound may st (no_interface f k other) has))
  opened_members (Err e) sound may st other has h = members_unidentified f a b k (Unit {0}) e (λ s says. (h (not_memory e s says)).known (parts_known f a k sound may st (no_interface f k other) has) s says)

  -- whatever is near
  pub whatever_near : (near : List Key) (r : Result (Unit {0}) AggregateError) → MatchResult r (λ u. Takes f a b (height f k) (k ∷ []) (λ t. Unit {0})) (MayRefuse f a (k ∷ []))
      → MatchResult r (λ u. TakesBy near f a b (height f k) (k ∷ []) (λ t. Unit {0})) (IsRefusedBy near f a (k ∷ []))
  whatever_near near (Ok u) h = Takes-apart f a b (height f k) (k ∷ []) (λ t. Unit {0}) h
  whatever_near near (Err e) h = refused_apart f a (k ∷ []) e h

  -- after other things were done of the entry
  module _ (c : Merging) (low : ℕ) (Q : State → Type 0) (below : low ≤ height f k) (may : MayTake f a) (g : Takes f a b low (k ∷ []) Q) where
    pub taken_after : (r : Result (Unit {0}) AggregateError) → MatchResult r (λ u. Takes f b c (height f k) (k ∷ []) (λ t. Unit {0})) (MayRefuse f b (k ∷ []))
        → MatchResult r (λ u. Takes f a c (height f k) (k ∷ []) (λ t. Unit {0})) (MayRefuse f a (k ∷ []))
    taken_after (Ok u) h = Takes-after f a b c low (height f k) (k ∷ []) (k ∷ []) Q (λ t. Unit {0}) below (within_all f (k ∷ [])) may g h
    taken_after (Err e) h = refused_later f a b low (k ∷ []) (k ∷ []) (k ∷ []) Q e (within_all f (k ∷ [])) (within_all f (k ∷ [])) may g h

    pub members_after : (r : Result (Unit {0}) AggregateError) → OnlyGrows f a b → AnswersMembers r f b c (IsReachedFrom f k) → AnswersMembers r f a c (IsReachedFrom f k)
    members_after (Ok u) grows h taken wit has all =
        let first = TakesMembers-grown f a b (IsReachedFrom f k) taken may.kept g.run grows has in
        TakesMembers-then f a b c (IsReachedFrom f k) taken first (h first.more wit first.has (first.all f (λ e. refl) all))
    members_after (Err e) grows h taken wit has all =
        let first = TakesMembers-grown f a b (IsReachedFrom f k) taken may.kept g.run grows has in
        member_refused_after f (IsReachedFrom f k) taken first.more e first.are_more (h first.more wit first.has (first.all f (λ e. refl) all))

-- what is absent is so still where nothing but the imports is another
pub absent_still : (a b : Merging) (k : Key) → ImportsOnly a b → memo_of a.taken k ≡ None → memo_of b.taken k ≡ None
absent_still a b k only none = subst (λ (m : Merging). memo_of m.taken k ≡ None) (sym only) none

-- what is read at an index stands there
pub read_at : {A : Type 0} (xs : List A) (i : ℕ) (x : A) → i < length xs → x ≡ slice_index_or xs i x → slice_get xs i ≡ Some x
read_at {A} xs i x low is = get_at xs i low ∙ ap (λ (y : A). Some y) (sym is)
  where
    get_at : (ys : List A) (j : ℕ) → j < length ys → slice_get ys j ≡ Some (slice_index_or ys j x)
    get_at [] j low = absurd (omega (arith, low))
    get_at (y ∷ ys) zero low = refl
    get_at (y ∷ ys) (suc j) low = get_at ys j (omega (arith, low))

-- what is found at an index is within the list
pub found_within : {A : Type 0} (xs : List A) (i : ℕ) (x : A) → slice_get xs i ≡ Some x → i < length xs
found_within [] i x h = absurd (cc)
found_within (y ∷ ys) zero x h = omega arith
found_within (y ∷ ys) (suc i) x h = omega (arith, found_within ys i x h)

-- something is noted where something is found
pub noted_by : (g : Id → Key) (o : Option Id) (n : Option Key) → option_map g o ≡ n → is_some o ≡ true → is_some n ≡ true
noted_by g None n is has = absurd (cc)
noted_by g (Some i) n is has = ap (λ (m : Option Key). is_some m) (sym is)

-- the use at an index is of the interface that is found there
pub use_is : (es : List (String Global × UsedType)) (i : ℕ) (p : Id) (name : Text) (u : UseContent) → option_map (λ u. u.interface) (slice_get (types_of es) i) ≡ Some p → slice_get (named use_content es) i ≡ Some (name, u) → p ≡ u.interface
use_is es i p name u found at =
    let w = used_named es i p found in
    let same : w.1 ≡ u = ap (λ (o : Option (Text × UseContent)). option_map_or (λ e. e.1) o u) (sym w.2 ∙ at) in
    sym w.3 ∙ ap (λ (v : UseContent). v.interface) same

-- ---- what interfaces and worlds use and export

-- the parts of an interface, at their places
module _ (f : Collection) (p : Id) (x : InterfaceContent) (at : slice_get f.interfaces p.index ≡ Some x) where
  within_interface : AreWithin f (interface_keys x) (interface_key p ∷ [])
  within_interface = within_parts f (interface_key p) (interface_keys x) (ap (optional_keys other_keys) (interface_at f p x at))

  pub within_uses : AreWithin f (named_keys use_keys x.uses) (interface_key p ∷ [])
  within_uses = within_trans f (named_keys use_keys x.uses) (interface_keys x) (interface_key p ∷ []) (within_left f (named_keys use_keys x.uses) (named_keys item_keys x.exports)) within_interface

  pub within_exports : AreWithin f (named_keys item_keys x.exports) (interface_key p ∷ [])
  within_exports = within_trans f (named_keys item_keys x.exports) (interface_keys x) (interface_key p ∷ []) (within_right f (named_keys use_keys x.uses) (named_keys item_keys x.exports)) within_interface

-- and those of a world, but for its imports
module _ (f : Collection) (p : Id) (x : WorldContent) (at : slice_get f.worlds p.index ≡ Some x) where
  within_world : AreWithin f (named_keys use_keys x.uses ++ named_keys item_keys x.exports) (world_key p ∷ [])
  within_world = within_parts f (world_key p) (named_keys use_keys x.uses ++ named_keys item_keys x.exports) (ap (optional_keys other_keys) (world_at f p x at))

  pub within_world_uses : AreWithin f (named_keys use_keys x.uses) (world_key p ∷ [])
  within_world_uses = within_trans f (named_keys use_keys x.uses) (named_keys use_keys x.uses ++ named_keys item_keys x.exports) (world_key p ∷ []) (within_left f (named_keys use_keys x.uses) (named_keys item_keys x.exports)) within_world

  pub within_world_exports : AreWithin f (named_keys item_keys x.exports) (world_key p ∷ [])
  within_world_exports = within_trans f (named_keys item_keys x.exports) (named_keys use_keys x.uses ++ named_keys item_keys x.exports) (world_key p ∷ []) (within_right f (named_keys use_keys x.uses) (named_keys item_keys x.exports)) within_world

-- an interface that is used at an index is openly reached
pub use_walk : (f : Collection) (k : Key) (es : List (String Global × UsedType)) (i : ℕ) (o : Id) → AreWithin f (named_keys use_keys (named use_content es)) (k ∷ []) → option_map (λ u. u.interface) (slice_get (types_of es) i) ≡ Some o → OpenReaches f k (interface_key o)
use_walk f k es i o within at = walk_within f k (interface_key o ∷ []) (within_trans f (interface_key o ∷ []) (named_keys use_keys (named use_content es)) (k ∷ []) (within_used f es i o at) within) (interface_key o) here

-- so is what an item names that is exported at an index
pub export_within : (f : Collection) (k : Key) (es : List (String Global × ItemKind)) (i : ℕ) (y : ItemKind) → AreWithin f (named_keys item_keys (named (λ v. v) es)) (k ∷ []) → slice_get (types_of es) i ≡ Some y → AreWithin f (item_keys y) (k ∷ [])
export_within f k es i y within at = within_trans f (item_keys y) (named_keys item_keys (named (λ v. v) es)) (k ∷ []) (within_named f item_keys (λ v. v) es i y at) within

-- what is used was taken in
uses_have : (f : Collection) (m : Remembered) (us : List (Text × UseContent)) → AreUsesNoted f m us → Each (HasOwn m) (named_keys use_keys us)
uses_have f m [] h = tt
uses_have f m ((n, u) ∷ us) h = ((h 0 n u refl).1, uses_have f m us (λ i. h (suc i)))

-- what an interface, or a world, uses and exports was
pub interface_noted : (f : Collection) (m : Remembered) (p : Id) (x : InterfaceContent) → slice_get f.interfaces p.index ≡ Some x → AreUsesNoted f m x.uses → Each (HasOwn m) (named_keys item_keys x.exports) → AreContentsNoted f m (interface_key p)
interface_noted f m p x at uses exports = record {
  uses = subst (AreUsesNoted f m) (sym (ap (λ o. option_map_or entry_uses o []) (interface_at f p x at))) uses;
  exports = subst (λ es. Each (HasOwn m) (named_keys item_keys es)) (sym (ap (λ o. option_map_or entry_exports o []) (interface_at f p x at))) exports;
}

pub world_noted : (f : Collection) (m : Remembered) (p : Id) (x : WorldContent) → slice_get f.worlds p.index ≡ Some x → AreUsesNoted f m x.uses → Each (HasOwn m) (named_keys item_keys x.exports) → AreContentsNoted f m (world_key p)
world_noted f m p x at uses exports = record {
  uses = subst (AreUsesNoted f m) (sym (ap (λ o. option_map_or entry_uses o []) (world_at f p x at))) uses;
  exports = subst (λ es. Each (HasOwn m) (named_keys item_keys es)) (sym (ap (λ o. option_map_or entry_exports o []) (world_at f p x at))) exports;
}

pub world_has : (f : Collection) (m : Remembered) (p : Id) (x : WorldContent) → slice_get f.worlds p.index ≡ Some x → AreUsesNoted f m x.uses → Each (HasOwn m) (named_keys item_keys x.exports) → (j : Key) → IsAmong j (open_next f (world_key p)) → HasOwn m j
world_has f m p x at uses exports j among = elim (among_either (named_keys use_keys x.uses) (named_keys item_keys x.exports) (subst (IsAmong j) (ap (optional_keys other_keys) (world_at f p x at)) among)) [
  | inl u ↦ among_each (HasOwn m) j (named_keys use_keys x.uses) u (uses_have f m x.uses uses)
  | inr e ↦ among_each (HasOwn m) j (named_keys item_keys x.exports) e exports
]

-- ---- types that are alike

-- a type was noted, after the owners of its resources were imported
pub noted_grows : (f : Collection) (a b : Merging) (now : Memo) (theirs ours : Key) → Stands f theirs → IsTypeKey theirs → ImportsOnly a b → AddsPair (memo_of b.taken) (memo_of now) theirs ours → OnlyGrows f a (record b { taken = now })
noted_grows f a b now theirs ours st is others adds =
    let h = imports_grow f a b others in
    record {
      grows = h.grows;
      shared = h.shared;
      noted = λ k o at. elim (adds.only k o at) [
        | inl e ↦ inr (ap (λ (x : Key). x.id.number) e.0 ∙ st.0, ap (identifier_at f) e.0 ∙ no_identifier f theirs is)
        | inr was ↦ h.noted k o was
      ];
    }

-- the owners of its resources are owed
pub owed_takes : {near : List Key} (f : Collection) (a b : Merging) (k : Key) (ks : List Key) (Q : State → Type 0) → AreWithin f ks (k ∷ []) → MayTake f a → Takes f a b 0 ks Q → TakesBy near f a b (height f k) (k ∷ []) (λ t. Unit {0})
owed_takes {near} f a b k ks Q within may g = Takes-apart f {near = near} a b (height f k) (k ∷ []) (λ t. Unit {0}) (Takes-more f a b 0 (height f k) ks (k ∷ []) Q (λ t. Unit {0}) (omega arith) within may (λ t kept q. tt) g)
