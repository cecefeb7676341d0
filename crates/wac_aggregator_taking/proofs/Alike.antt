-- Types that are remembered as alike ones, once the owners of the resources that
-- they are made of were taken in.
use Rattle.std.proofs.Common.{◌≡◌, false, is_some, ◌<◌, ◌≤◌, ◌⊎◌, ℕ, inl, inr, IsSome, IfSome, List, [], ◌∷◌, Contains, Option, Some, None, length, slice_get, slice_index_or, zero, suc, ◌+◌, refl, ap, sym, subst, ◌∙◌, map, arith}
use Rattle.std.specs.Option.{option_and_then, option_map, option_map_or}
use Rattle.wac_model.specs.ItemTree.{item, type_item, leaf, resource, value}
use Rattle.std.specs.Str.{bytes_eq}
use Rattle.wac_model.specs.Text.{Text, lookup}
use Rattle.wac_component.specs.Id.{Id}
use Rattle.wac_component.specs.Collection.{Collection, DefinedContent, ResourceContent, AliasContent, InterfaceContent}
use Rattle.wac_component.specs.Entries.{identifier_at, owner_at}
use Rattle.wac_component.specs.Height.{height, keys_height}
use Rattle.wac_component.specs.Key.{Key, Sort, defined_sort, resource_sort, func_sort, interface_sort, world_sort, module_sort, defined_entry, resource_entry, optional_keys, other_keys, alias_keys, resource_key, defined_key, interface_key, Stands, Each, AllStand, item_keys, named_keys, use_keys}
use Rattle.wac_aggregator_memo.specs.Memo.{AddsPair, Remembered, memo_of}
use Rattle.wac_component.specs.Open.{open_next, OpenReaches, stay, step}
use Rattle.wac_component.specs.Reach.{IsAmong, here, there}
use Rattle.wac_component.specs.Sound.{IsSound}
use Rattle.wac_component.specs.Tree.{item_tree, root_name, value_tree}
use Rattle.wac_component.specs.declared.items.ItemKind.{ItemKind}
use Rattle.wac_component.specs.declared.items.ValueType.TheVariants.{Defined}
use Rattle.wac_component.proofs.Among.{among_each, among_right, each_among, each_found, Contains-first, Contains-later, among_either, among_single}
use Rattle.wac_component.proofs.Keys.{largest-append}
use Rattle.wac_component.proofs.Lists.{slice_get-map}
use Rattle.wac_component.proofs.OpenWalks.{OpenReaches-trans, open_in_next, opens_stand}
use Rattle.wac_component.proofs.Reading.{interface_at}
use Rattle.wac_component.proofs.Walks.{next_below}
use Rattle.wac_component.proofs.Search.{next_lower}
use Rattle.wac_merge.specs.Items.{entry_item}
use Rattle.wac_merge.proofs.ItemKeys.{each_entry_item}
use Rattle.wac_names.specs.Class.{class_of}
use Rattle.wac_aggregator_narrowing.specs.Identified.{use_names, use_names_at, StopsAt, stop, goes_on, IsUnstopped, IsQuiet, OpenlyOn, IsCovered}
use Rattle.wac_aggregator_narrowing.specs.Remembers.{RemembersTruly, IsRememberedAs}
use Rattle.wac_aggregator_narrowing.specs.State.{State, IsStateKept, IsOneWith, RunsTaking}
use Rattle.wac_aggregator_narrowing.specs.Taking.{SameTree, IsTakenKey, IsClosedIn}
use Rattle.wac_aggregator_narrowing.specs.Standing.{StandsFor}
use Rattle.wac_aggregator_narrowing.specs.Values.{IfAny, neither, both}
use Rattle.wac_aggregator_narrowing.proofs.Adding.{fits_if_same}
use Rattle.wac_aggregator_narrowing.proofs.Remembered.{RemembersTruly-take}
use Rattle.wac_aggregator_narrowing.proofs.Running.{RunsTaking-take, RunsTaking-trans, StandsFor-Narrows}
use Rattle.wac_aggregator_narrowing.proofs.Stopping.{stop_identified}
use Rattle.wac_aggregator_promises.specs.Attempt.{Attempt}
use Rattle.wac_aggregator_reasons.specs.Sharing.{of_shared}
use Rattle.wac_aggregator_reasons.specs.Trial.{IsAccounted, IsOpenSource}
use Rattle.wac_aggregator_reasons.proofs.Accounts.{root_open, part_open, accounted_then, accounted_taken}
use Rattle.wac_aggregator_memo.specs.declared.memo.Memo.{Memo}
use Rattle.wac_aggregator_alike.specs.Alike.{made_keys, made_next, IsTypeMadeOf, itself, part, AreOwnersIdentified, AreTypesAlike, AreOwnedIn}
use Rattle.wac_aggregator_alike.proofs.MadeOf.{IsTypeKey, is_type_sort, made_opens, made_types, made_stands, made_unidentified, made_or_owned, no_identifier}
use Rattle.wac_aggregator_taking.specs.Takes.{state_of, MayTake, IsOwnEntry, IsNear, IsNearest, near_keys, AreNear, NearNames, AreWithin, TakesBy, Takes, owners_keys, LeadsToOwner, OwnersImported, IsOwnerImported, IsTakenOwner, AreOwnersTaken}
use Rattle.wac_aggregator_taking.specs.declared.state.Merging.{Merging}
use Rattle.wac_aggregator_taking.proofs.TakeLemmas.{still_none, known_within, known_still, noted_known, trial_within, near_still, near_none, owners_import_still, owners_import_within, shared_from_still, shared_from_within, shared_stands}
use Rattle.wac_aggregator_taking.proofs.Plain.{plain_within}
use Rattle.wac_aggregator_taking.proofs.Parts.{owner_still}
use Rattle.wac_aggregator_taking.proofs.Within.{owned_within}

-- ---- equal trees of entries

pub same_resource : (c f : Collection) (p q : Id) → root_name c p ≡ root_name f q → SameTree f c (resource_key q) (resource_key p)
same_resource c f p q e item = ap (λ n. leaf type_item (resource n)) e
same_resource c f p q e type_item = ap (λ n. leaf type_item (resource n)) e

pub same_defined_type : (c f : Collection) (p q : Id) → value_tree c (Defined p) ≡ value_tree f (Defined q) → SameTree f c (defined_key q) (defined_key p)
same_defined_type c f p q e item = ap (λ v. leaf item (value v)) e
same_defined_type c f p q e type_item = ap (λ v. leaf type_item (value v)) e

-- ---- what the entry of a type openly names

named_defined : (c : Collection) (p : Id) (j : Key) → IsAmong j (open_next c (defined_key p)) → IsAmong j (made_next c (defined_key p))
named_defined c p j m =
    let e = slice_get-map defined_entry c.defined p.index in
    subst (λ o. IsAmong j (optional_keys made_keys o)) (sym e) (at (slice_get c.defined p.index) (subst (λ o. IsAmong j (optional_keys other_keys o)) e m))
  where
    at : (o : Option DefinedContent) → IsAmong j (optional_keys other_keys (option_map defined_entry o)) → IsAmong j (optional_keys made_keys (option_map defined_entry o))
    at None n = elim n [ ]
    at (Some d) n = n

-- the owner that an alias names, or its source
owner_or_source : (j : Key) (x : Option AliasContent) → IsAmong j (optional_keys alias_keys x)
    → IsAmong j (option_map_or (λ a. resource_key a.source ∷ []) x []) ⊎ ((o : Id) × (j ≡ interface_key o) × (option_and_then (λ (a : AliasContent). a.owner) x ≡ Some o))
owner_or_source j None n = elim n [ ]
owner_or_source j (Some a) n = elim (among_either (optional_keys (λ (o : Id). interface_key o ∷ []) a.owner) (resource_key a.source ∷ []) n) [
  | inl l ↦ inr (of_owner a.owner l)
  | inr l ↦ inl l
]
  where
    of_owner : (q : Option Id) → IsAmong j (optional_keys (λ (o : Id). interface_key o ∷ []) q) → (o : Id) × (j ≡ interface_key o) × (q ≡ Some o)
    of_owner None n = elim n [ ]
    of_owner (Some o) n = (o, among_single (interface_key o) n, refl)

named_resource : (c : Collection) (p : Id) (j : Key) → IsAmong j (open_next c (resource_key p)) → IsAmong j (made_next c (resource_key p)) ⊎ ((o : Id) × (j ≡ interface_key o) × (owner_at c p ≡ Some o))
named_resource c p j m =
    let e = slice_get-map resource_entry c.resources p.index in
    elim (at (slice_get c.resources p.index) (subst (λ o. IsAmong j (optional_keys other_keys o)) e m)) [
      | inl l ↦ inl (subst (λ o. IsAmong j (optional_keys made_keys o)) (sym e) l)
      | inr l ↦ inr l
    ]
  where
    at : (o : Option ResourceContent) → IsAmong j (optional_keys other_keys (option_map resource_entry o))
        → IsAmong j (optional_keys made_keys (option_map resource_entry o)) ⊎ ((q : Id) × (j ≡ interface_key q) × (option_and_then (λ (x : ResourceContent). option_and_then (λ (a : AliasContent). a.owner) x.alias) o ≡ Some q))
    at None n = elim n [ ]
    at (Some x) n = owner_or_source j x.alias n

-- an entry that a type's names is of what it is made of, or of the owner of a resource
named_by : (c : Collection) (k j : Key) → IsTypeKey k → IsAmong j (open_next c k) → IsAmong j (made_next c k) ⊎ ((r : Id) × (o : Id) × (k ≡ resource_key r) × (j ≡ interface_key o) × (owner_at c r ≡ Some o))
named_by c k j h m = by_sort k.sort k.id h m
  where
    by_sort : (s : Sort) (p : Id) → is_type_sort s → IsAmong j (open_next c (record { sort = s; id = p }))
        → IsAmong j (made_next c (record { sort = s; id = p })) ⊎ ((r : Id) × (o : Id) × (record { sort = s; id = p } ≡ resource_key r) × (j ≡ interface_key o) × (owner_at c r ≡ Some o))
    by_sort defined_sort p h m = inl (named_defined c p j m)
    by_sort resource_sort p h m = elim (named_resource c p j m) [
      | inl l ↦ inl l
      | inr l ↦ inr (p, l.0, refl, l.1, l.2)
    ]
    by_sort func_sort p h m = absurd h
    by_sort interface_sort p h m = absurd h
    by_sort world_sort p h m = absurd h
    by_sort module_sort p h m = absurd h

-- types use nothing
no_uses : (c : Collection) (k : Key) → IsTypeKey k → use_names_at c k ≡ []
no_uses c k h = by_sort k.sort k.id h
  where
    of_defined : (o : Option DefinedContent) → option_map_or use_names (option_map defined_entry o) [] ≡ []
    of_defined None = refl
    of_defined (Some d) = refl

    of_resource : (o : Option ResourceContent) → option_map_or use_names (option_map resource_entry o) [] ≡ []
    of_resource None = refl
    of_resource (Some r) = refl

    by_sort : (s : Sort) (p : Id) → is_type_sort s → use_names_at c (record { sort = s; id = p }) ≡ []
    by_sort defined_sort p h = ap (λ o. option_map_or use_names o []) (slice_get-map defined_entry c.defined p.index) ∙ of_defined (slice_get c.defined p.index)
    by_sort resource_sort p h = ap (λ o. option_map_or use_names o []) (slice_get-map resource_entry c.resources p.index) ∙ of_resource (slice_get c.resources p.index)
    by_sort func_sort p h = absurd h
    by_sort interface_sort p h = absurd h
    by_sort world_sort p h = absurd h
    by_sort module_sort p h = absurd h

-- ---- where open walks from types stop

IsTypeMadeOf-trans : (c : Collection) (k j t : Key) → IsTypeMadeOf c k j → IsTypeMadeOf c j t → IsTypeMadeOf c k t
IsTypeMadeOf-trans c k j t itself w = w
IsTypeMadeOf-trans c k j t (part {j = i} m v) w = part m (IsTypeMadeOf-trans c i j t v w)

-- what has an identifier is where a walk stops
stops_here : (c : Collection) (k t : Key) (n m : Text) → identifier_at c k ≡ Some m → StopsAt c k t n → t ≡ k
stops_here c k t n m is (stop at) = refl
stops_here c k t n m is (goes_on none among w) = absurd (let no : None ≡ Some m = sym none ∙ is in cc)

pub some_of : {A : Type 0} (o : Option A) → IsSome o → (x : A) × (o ≡ Some x)
some_of None h = absurd (cc)
some_of (Some x) h = (x, refl)

module _ (c : Collection) (top : Key) (identified : AreOwnersIdentified c top) where
  -- an open walk from a type stops at the owner of a resource that it is made of
  stops_at_owner : (k t : Key) (n : Text) → IsTypeKey k → IsTypeMadeOf c top k → StopsAt c k t n → (r : Id) × (o : Id) × IsTypeMadeOf c top (resource_key r) × (owner_at c r ≡ Some o) × (t ≡ interface_key o)
  stops_at_owner k t n h made (stop at) = absurd (let no : None ≡ Some n = sym (no_identifier c k h) ∙ at in cc)
  stops_at_owner k t n h made (goes_on {j = j} none among w) = by (named_by c k j h among) (λ m. stops_at_owner j t n (made_types c k j h (part m itself)) (IsTypeMadeOf-trans c top k j made (part m itself)) w)
    where
      by : IsAmong j (made_next c k) ⊎ ((r : Id) × (o : Id) × (k ≡ resource_key r) × (j ≡ interface_key o) × (owner_at c r ≡ Some o))
          → (IsAmong j (made_next c k) → (r : Id) × (o : Id) × IsTypeMadeOf c top (resource_key r) × (owner_at c r ≡ Some o) × (t ≡ interface_key o))
          → (r : Id) × (o : Id) × IsTypeMadeOf c top (resource_key r) × (owner_at c r ≡ Some o) × (t ≡ interface_key o)
      by (inl m) later = later m
      by (inr e) later =
          let r_made = subst (IsTypeMadeOf c top) e.2 made in
          let name = some_of (identifier_at c (interface_key e.1)) (identified e.1 (e.0, r_made, e.4)) in
          (e.0, e.1, r_made, e.4, stops_here c j t n name.0 (ap (identifier_at c) e.3 ∙ name.1) w ∙ e.3)

-- the owner of a resource that a type is made of is openly reached from the type
owner_opens : (c : Collection) (k : Key) (r o : Id) → IsTypeMadeOf c k (resource_key r) → owner_at c r ≡ Some o → OpenReaches c k (interface_key o)
owner_opens c k r o made at =
    let v = owned_within c r o at (interface_key o) here in
    OpenReaches-trans c k (resource_key r) (interface_key o) (made_opens c k (resource_key r) made) (subst (λ x. OpenReaches c x (interface_key o)) (among_single (resource_key r) v.1) v.2)

-- ---- the memory of alike types

if_some : {R : Id → Id → Type 0} (x y : Option Id) (o : Id) → x ≡ Some o → IfAny R x y → (q : Id) × R o q
if_some x y o is neither = absurd (let no : None ≡ Some o = is in cc)
if_some {R} x y o is (both {x = p} {y = q} h) = let same : p ≡ o = cc in (q, subst (λ i. R i q) same h)

module _ (f : Collection) (s t : State) (theirs ours : Key) (rs : List Id) (sound : IsSound f) (stands : Stands f theirs) (is_type : IsTypeKey theirs) (is_own_type : IsTypeKey ours) (same_sort : ours.sort ≡ theirs.sort)
    (kept : IsStateKept s) (run : RunsTaking (RemembersTruly class_of) f s t) (own_stands : Stands s.own ours) (own_covered : IsCovered s.own s.shared ours) (same : SameTree f s.own theirs ours)
    (alike : AreTypesAlike s.own f ours theirs) (owned : AreOwnedIn f theirs rs) (owners : AreOwnersTaken f rs t) where
  -- the owner of a resource that the foreign type is made of was taken in, and is imported
  owner_of_made : (r o : Id) → IsTypeMadeOf f theirs (resource_key r) → owner_at f r ≡ Some o → ((q : Id) × IsTakenKey class_of f t (interface_key o) (interface_key q)) × IsOwnerImported f t (Some o)
  owner_of_made r o made at =
      let taken = owners r (owned.every r o made at) in
      (if_some (owner_at f r) taken.0 o at taken.1.taken, subst (IsOwnerImported f t) at taken.1.imported)

  pub alike_closed : IsClosedIn f t.taken theirs
  alike_closed x n walk at = elim (made_or_owned f theirs x is_type walk) [
    | inl made ↦ absurd (let no : None ≡ Some n = sym (made_unidentified f theirs x is_type made) ∙ at in cc)
    | inr e ↦ (owner_of_made e.0 e.1 e.2 e.3).0.1.closed x n e.4 at
  ]

  -- where an open walk from the own type stops there is an owner on one of
  -- the tracks of the foreign one's
  alike_track : (x : Key) (n : Text) → StopsAt s.own ours x n → identifier_at s.own x ≡ Some n → OpenlyOn class_of f theirs (class_of n)
  alike_track x n w is =
      let e = stops_at_owner s.own ours alike.ours ours x n is_own_type itself w in
      let found = (alike.tracks (class_of n)).0 (e.1, (e.0, e.2, e.3), ap (option_map class_of) (ap (identifier_at s.own) (sym e.4) ∙ is)) in
      let name = some_of (identifier_at f (interface_key found.0)) (alike.theirs found.0 found.1) in
      let track : Some (class_of name.0) ≡ Some (class_of n) = ap (option_map class_of) (sym name.1) ∙ found.2 in
      record { at = interface_key found.0; name = name.0; walk = owner_opens f theirs found.1.0 found.0 found.1.1 found.1.2; identified = name.1; on_track = cc }

  alike_unstopped : IsQuiet f theirs → IsUnstopped s.own ours
  alike_unstopped quiet x n w = let on = alike_track x n w (stop_identified s.own ours x n w) in quiet on.at on.name on.walk on.identified

  pub alike_remembered : IsRememberedAs class_of f t.own t.shared theirs ours
  alike_remembered =
      let before : StandsFor f s.own theirs ours = record { sort = same_sort; theirs_stands = stands; own_stands = own_stands; fits = λ k. fits_if_same (item_tree s.own (entry_item k ours)) (item_tree f (entry_item k theirs)) (same k) } in
      record {
        stands_for = StandsFor-Narrows f s.own t.own s.shared t.shared theirs ours (run.narrows kept) before;
        quiet = λ q k. (run.stops kept).quiet (entry_item k ours) (each_entry_item (Stands s.own) k ours own_stands) (each_entry_item (IsUnstopped s.own) k ours (alike_unstopped q)) ∙ same k;
        shared = λ n at. absurd (let no : None ≡ Some n = sym (no_identifier f theirs is_type) ∙ at in cc);
        plain = λ none. record {
          plain = no_identifier t.own ours is_own_type;
          uses = no_uses t.own ours is_own_type ∙ sym (no_uses f theirs is_type);
          stops = λ x n w. let was = (run.stops kept).stops ours x n own_stands w in alike_track x n was (stop_identified s.own ours x n was);
        };
      }

  -- each owner to which the foreign type openly leads is imported
  alike_leads : (n : Text) → OwnersImported f t → LeadsToOwner f theirs n → IsSome (t.imports n)
  alike_leads n h l = elim (made_or_owned f theirs (resource_key l.resource) is_type l.walk) [
    | inl made ↦ (owner_of_made l.resource l.owner made l.owned).1 l.owner n refl l.identified
    | inr e ↦ of_owner e.0 e.1 e.2 e.3 e.4
  ]
    where
      of_owner : (r o : Id) → IsTypeMadeOf f theirs (resource_key r) → owner_at f r ≡ Some o → OpenReaches f (interface_key o) (resource_key l.resource) → IsSome (t.imports n)
      of_owner r o made at walk =
          let own = (owner_of_made r o made at).0 in
          h (interface_key o) (interface_key own.0) n own.1.noted (opens_stand f sound theirs (interface_key o) stands (owner_opens f theirs r o made at)).0 (record { resource = l.resource; owner = l.owner; walk = walk; owned = l.owned; identified = l.identified })

  pub alike_owners : (now : Remembered) (g : Collection) → AddsPair t.taken now theirs ours → IsOneWith f g → OwnersImported g t → OwnersImported g (record t { taken = now })
  alike_owners now g adds one h k o n is number l = elim (adds.only k o is) [
    | inl e ↦ by_pair e.0 (one (sym number ∙ ap (λ (x : Key). x.id.number) e.0 ∙ stands.0))
    | inr was ↦ h k o n was number l
  ]
    where
      by_pair : k ≡ theirs → g ≡ f → IsSome (t.imports n)
      by_pair e is_f = alike_leads n (subst (λ x. OwnersImported x t) is_f h) (subst (λ x. LeadsToOwner f x n) e (subst (λ x. LeadsToOwner x k n) is_f l))

  -- it may be noted
  pub alike_runs : (now : Remembered) → AddsPair t.taken now theirs ours → RunsTaking (RemembersTruly class_of) f t (record t { taken = now })
  alike_runs now adds =
      RunsTaking-take (RemembersTruly class_of) f t now theirs ours adds
      (λ h. ((run.narrows kept).standing ours own_stands, (run.stops kept).covered ours own_stands own_covered))
      (λ h g one truly. RemembersTruly-take class_of f g t now theirs ours one stands.0 adds alike_remembered (λ x n w at. let r = alike_closed x n w at in (r.0, adds.kept x r.0 r.1)) truly)

-- ---- heights, and ids

-- the owners are below the type
module _ (f : Collection) (sound : IsSound f) where
  pub opens_lower : (k t : Key) → Stands f k → OpenReaches f k t → height f t ≤ height f k
  opens_lower k t st stay = omega arith
  opens_lower k t st (step {j = j} m w) = omega (arith, opens_lower j t (opens_stand f sound k j st (step m stay)) w, next_below f k j sound st (open_in_next f k j m))

  strictly_lower : (k t : Key) → Stands f k → ¬ (k ≡ t) → OpenReaches f k t → height f t < height f k
  strictly_lower k t st other stay = absurd (other refl)
  strictly_lower k t st other (step {j = j} m w) = omega (arith, opens_lower j t (opens_stand f sound k j st (step m stay)) w, next_below f k j sound st (open_in_next f k j m))

  owner_lower : (k : Key) (r : Id) (q : Option Id) → Stands f k → IsTypeKey k → IsTypeMadeOf f k (resource_key r) → owner_at f r ≡ q → keys_height f (optional_keys (λ o. interface_key o ∷ []) q) < height f k
  owner_lower k r None st h made at = omega (arith, next_lower f k sound st)
  owner_lower k r (Some o) st h made at = omega (arith, strictly_lower k (interface_key o) st (λ e. subst IsTypeKey e h) (owner_opens f k r o made at))

  pub owners_lower : (k : Key) (rs : List Id) → Stands f k → IsTypeKey k → ((r : Id) → Contains rs r → IsTypeMadeOf f k (resource_key r)) → keys_height f (owners_keys f rs) < height f k
  owners_lower k [] st h made = omega (arith, next_lower f k sound st)
  owners_lower k (r ∷ rs) st h made = omega (
    arith,
    largest-append (height f) (optional_keys (λ o. interface_key o ∷ []) (owner_at f r)) (owners_keys f rs),
    owner_lower k r (owner_at f r) st h (made r (Contains-first r rs)) refl,
    owners_lower k rs st h (λ q m. made q (Contains-later q r rs m)),
  )

  pub owned_within_type : (k : Key) (rs : List Id) → ((r : Id) → Contains rs r → IsTypeMadeOf f k (resource_key r)) → AreWithin f (map resource_key rs) (k ∷ [])
  owned_within_type k [] made j m = elim m [ ]
  owned_within_type k (r ∷ rs) made j here = (k, here, made_opens f k (resource_key r) (made r (Contains-first r rs)))
  owned_within_type k (r ∷ rs) made j (there m) = owned_within_type k rs (λ q n. made q (Contains-later q r rs n)) j m

  pub owned_stand : (k : Key) (rs : List Id) → Stands f k → ((r : Id) → Contains rs r → IsTypeMadeOf f k (resource_key r)) → AllStand f (map resource_key rs)
  owned_stand k [] st made = tt
  owned_stand k (r ∷ rs) st made = (made_stands f sound k (resource_key r) st (made r (Contains-first r rs)), owned_stand k rs st (λ q n. made q (Contains-later q r rs n)))

-- ---- an alike type is remembered

module _ (f : Collection) (sound : IsSound f) (a b : Merging) (now : Memo) (theirs ours : Key) (rs : List Id) (stands : Stands f theirs) (is_type : IsTypeKey theirs) (is_own_type : IsTypeKey ours) (same_sort : ours.sort ≡ theirs.sort)
    (may : MayTake f a) (own : IsOwnEntry a ours) (same : SameTree f a.types theirs ours) (alike : AreTypesAlike a.types f ours theirs) (owned : AreOwnedIn f theirs rs) (g : Takes f a b (keys_height f (owners_keys f rs)) (map resource_key rs) (AreOwnersTaken f rs)) where
  made : (r : Id) → Contains rs r → IsTypeMadeOf f theirs (resource_key r)
  made r m = (owned.each r m).0

  pub Takes-alike : AddsPair (memo_of b.taken) (memo_of now) theirs ours → memo_of b.taken theirs ≡ None → TakesBy (ours ∷ []) f a (record b { taken = now }) (height f theirs) (theirs ∷ []) (λ t. Unit {0})
  Takes-alike adds none =
      let s = state_of a in
      let t = state_of b in
      let c : Merging = record b { taken = now } in
      let within = owned_within_type f sound theirs rs made in
      let kept = g.run.kept may.kept in
      let runs = alike_runs f s t theirs ours rs sound stands is_type is_own_type same_sort may.kept g.run own.0 own.1 same alike owned g.holds (memo_of now) adds in
      record {
        low = λ k above absent. still_none f (memo_of b.taken) (memo_of now) theirs ours k adds (λ e. omega (arith, above, ap (height f) e)) (g.low k (omega (arith, owners_lower f sound theirs rs stands is_type made, above)) absent) (memo_of now k) refl;
        run = RunsTaking-trans (RemembersTruly class_of) f s t (state_of c) g.run runs;
        filed = g.filed;
        owners = λ e one h. alike_owners f s t theirs ours rs sound stands is_type is_own_type same_sort may.kept g.run own.0 own.1 same alike owned g.holds (memo_of now) e adds one (g.owners e one h);
        led = g.led;
        stays = g.stays;
        due = λ q i is. elim (g.due q i is) [
          | inl was ↦ inl was
          | inr new ↦ inr (owners_import_within f c (map resource_key rs) (theirs ∷ []) within q i (owners_import_still f b c kept runs (map resource_key rs) q i new))
        ];
        shares = λ e among. elim (g.shares e among) [
          | inl was ↦ inl was
          | inr new ↦ inr (shared_from_within f c (map resource_key rs) (theirs ∷ []) within e (shared_from_still f b c kept runs (map resource_key rs) e among new))
        ];
        identified = g.identified;
        plain = λ p. g.plain (plain_within f (map resource_key rs) (theirs ∷ []) within p);
        known = λ all.
            let only = g.known (known_within f a (map resource_key rs) (theirs ∷ []) within all) in
            record {
              grows = only.grows;
              shared = only.shared;
              noted = λ k o is. elim (noted_known f b c theirs ours stands.0 adds (known_still f a b (theirs ∷ []) g.run all) k o is) [ inl was ↦ only.noted k o was | inr new ↦ inr new ];
            };
        accounts = λ at trial all by.
            let standing = (g.run.narrows may.kept).standing in
            let one = g.accounts at (trial_within at f (map resource_key rs) (theirs ∷ []) within trial) all (near_none at a) in
            let now_open = (near_still at a b (ours ∷ []) standing one by).opens.0 in
            let tree = subst (λ d. SameTree d a.types theirs ours) (sym trial.types) same in
            accounted_then at s t (state_of c) standing one
            (accounted_taken at t (state_of c) theirs ours kept refl refl refl refl adds now_open
            (λ untold. elim one.grows [
              | inl touches ↦ inl touches
              | inr grows ↦ inr (λ k. grows.trees (entry_item k ours) (each_entry_item (Stands a.types) k ours own.0) ∙ tree k)
            ]) one.now);
        holds = tt;
      }

-- ---- near interfaces

-- what the entry of an own entry openly names is one too
pub IsOwnEntry-next : (a : Merging) (k j : Key) → IsStateKept (state_of a) → IsOwnEntry a k → IsAmong j (open_next a.types k) → IsOwnEntry a j
IsOwnEntry-next a k j kept own m = (opens_stand a.types kept.good.sound k j own.0 (step m stay), λ t n w at. own.1 t n (step m w) at)

pub IsOwnEntry-Takes : {near : List Key} (f : Collection) (a b : Merging) (top : ℕ) (ks : List Key) (Q : State → Type 0) (k : Key) → MayTake f a → TakesBy near f a b top ks Q → IsOwnEntry a k → IsOwnEntry b k
IsOwnEntry-Takes f a b top ks Q k may g own = ((g.run.narrows may.kept).standing k own.0, (g.run.stops may.kept).covered k own.0 own.1)

pub IsNear-Takes : {by : List Key} (f : Collection) (a b : Merging) (top : ℕ) (ks : List Key) (Q : State → Type 0) (near : Option Id) → MayTake f a → TakesBy by f a b top ks Q → IsNear a near → IsNear b near
IsNear-Takes f a b top ks Q near may g h i is = IsOwnEntry-Takes f a b top ks Q (interface_key i) may g (h i is)

pub IsNear-none : (a : Merging) → IsNear a None
IsNear-none a i is = absurd (cc)

-- what a near interface names are own entries
pub own_entries_led : (a : Merging) (near : Option Id) (ks : List Key) → IsStateKept (state_of a) → IsNear a near → NearNames a.types near ks → Each (IsOwnEntry a) ks
own_entries_led a near ks kept h led = each_among (IsOwnEntry a) ks (λ k m. IsOwnEntry-next a (interface_key led.0) k kept (h led.0 led.1) (led.2 k m))

pub IsNear-led : (a : Merging) (near below : Option Id) → IsStateKept (state_of a) → IsNear a near → IfSome below (λ i. NearNames a.types near (interface_key i ∷ [])) → IsNear a below
IsNear-led a near None kept h led i is = absurd (cc)
IsNear-led a near (Some j) kept h led i is = let same : j ≡ i = cc in subst (λ x. IsOwnEntry a (interface_key x)) same (own_entries_led a near (interface_key j ∷ []) kept h led).0

pub own_if_led : (a : Merging) (near : Option Id) (o : Option ItemKind) → IsStateKept (state_of a) → IsNear a near → IfSome o (λ k. NearNames a.types near (item_keys k)) → IfSome o (λ k. Each (IsOwnEntry a) (item_keys k))
own_if_led a near None kept h led = tt
own_if_led a near (Some k) kept h led = own_entries_led a near (item_keys k) kept h led

-- what the near interface exports under a name is named by its entry
pub led_to_export : (c : Collection) (near : Option Id) (i : Id) (x : InterfaceContent) (n : Text) → near ≡ Some i → slice_get c.interfaces i.index ≡ Some x → (o : Option ItemKind) → o ≡ lookup bytes_eq x.exports n → IfSome o (λ k. NearNames c near (item_keys k))
led_to_export c near i x n is at None same = tt
led_to_export c near i x n is at (Some y) same =
    let P : Key → Type 0 = λ k. IsAmong k (open_next c (interface_key i)) in
    let all : Each P (named_keys item_keys x.exports) = each_among P (named_keys item_keys x.exports) (λ k m. subst (IsAmong k) (sym (ap (optional_keys other_keys) (interface_at c i x at))) (among_right (named_keys use_keys x.uses) (named_keys item_keys x.exports) m)) in
    let found = each_found P x.exports n y (sym same) all in
    (i, is, λ k m. among_each P k (item_keys y) m found)

-- what a near interface names is near
pub near_led : (at : Attempt) (a : Merging) (near : Option Id) (ks : List Key) → IsStateKept (state_of a) → NearNames a.types near ks → AreNear at a (near_keys near) → AreNear at a ks
near_led at a near ks kept led h =
    let by = subst (λ o. AreNear at a (near_keys o)) led.1 h in
    let stands = by.stand.0 in
    record {
      stand = each_among (Stands a.types) ks (λ k m. opens_stand a.types kept.good.sound (interface_key led.0) k stands (step (led.2 k m) stay));
      opens = each_among (IsOpenSource at (state_of a)) ks (λ k m. part_open at (state_of a) (interface_key led.0) k (led.2 k m) by.opens.0);
    }

-- so is an interface among them, if it is one
pub near_below : (at : Attempt) (a : Merging) (near below : Option Id) → IsStateKept (state_of a) → IfSome below (λ i. NearNames a.types near (interface_key i ∷ [])) → AreNear at a (near_keys near) → AreNear at a (near_keys below)
near_below at a near None kept led h = near_none at a
near_below at a near (Some i) kept led h = near_led at a near (interface_key i ∷ []) kept led h

-- and an item
pub near_item : (at : Attempt) (a : Merging) (near : Option Id) (o : Option ItemKind) → IsStateKept (state_of a) → IfSome o (λ k. NearNames a.types near (item_keys k)) → AreNear at a (near_keys near) → AreNear at a (optional_keys item_keys o)
near_item at a near None kept led h = near_none at a
near_item at a near (Some k) kept led h = near_led at a near (item_keys k) kept led h

-- what is shared is near
pub near_nearest : (at : Attempt) (a : Merging) (near nearest : Option Id) → IsStateKept (state_of a) → IsNearest a near nearest → IsAccounted at (state_of a) → AreNear at a (near_keys near) → AreNear at a (near_keys nearest)
near_nearest at a near None kept h all by = near_none at a
near_nearest at a near (Some i) kept h all by = elim (h i refl) [
  | inl same ↦ subst (λ o. AreNear at a (near_keys o)) same by
  | inr shared ↦ record { stand = (shared_stands (state_of a) kept (interface_key i) shared, tt); opens = (root_open at (state_of a) (interface_key i) all (of_shared shared), tt) }
]

-- ---- the owners of a list of resources, one by one

-- those of the first i were taken in
abbrev pub AreFirstTaken : Collection → ℕ → List Id → State → Type 0
AreFirstTaken f i rs s = (j : ℕ) (r : Id) → j < i → slice_get rs j ≡ Some r → (o : Option Id) × IsTakenOwner f (owner_at f r) o s

pub less_or_same : (j i : ℕ) → j < i + 1 → (j < i) ⊎ (j ≡ i)
less_or_same zero zero low = inr refl
less_or_same zero (suc i) low = inl (omega arith)
less_or_same (suc j) zero low = absurd (omega (arith, low))
less_or_same (suc j) (suc i) low = elim (less_or_same j i (omega (arith, low))) [
  | inl l ↦ inl (omega (arith, l))
  | inr e ↦ inr (ap suc e)
]

module _ (f : Collection) where
  pub first_still : (s t : State) (i : ℕ) (rs : List Id) → IsStateKept s → RunsTaking (RemembersTruly class_of) f s t → AreFirstTaken f i rs s → AreFirstTaken f i rs t
  first_still s t i rs kept run h j r low at = let was = h j r low at in (was.0, owner_still f s t kept (RemembersTruly class_of) f run (owner_at f r) was.0 was.1)

  pub first_next : (s : State) (i : ℕ) (rs : List Id) (r : Id) (o : Option Id) → slice_get rs i ≡ Some r → AreFirstTaken f i rs s → IsTakenOwner f (owner_at f r) o s → AreFirstTaken f (i + 1) rs s
  first_next s i rs r o at h taken j q low is = elim (less_or_same j i low) [
    | inl less ↦ h j q less is
    | inr e ↦
        let same : Some r ≡ Some q = sym at ∙ ap (slice_get rs) (sym e) ∙ is in
        let equal : r ≡ q = cc in
        (o, subst (λ x. IsTakenOwner f (owner_at f x) o s) equal taken)
  ]

  pub first_whole : (s : State) (i : ℕ) (rs : List Id) → length rs ≤ i → AreFirstTaken f i rs s → AreOwnersTaken f rs s
  first_whole s i rs all h r m = h m.0 r (omega (arith, m.1, all)) (get_at rs m.0 m.1 ∙ ap Some m.2)
    where
      get_at : (xs : List Id) (k : ℕ) → k < length xs → slice_get xs k ≡ Some (slice_index_or xs k r)
      get_at [] k low = absurd (omega (arith, low))
      get_at (x ∷ xs) zero low = refl
      get_at (x ∷ xs) (suc k) low = get_at xs k (omega (arith, low))

-- what stands among resources, and what one of them leads to
pub resource_at : (P : Key → Type 0) (rs : List Id) (i : ℕ) (r : Id) → slice_get rs i ≡ Some r → Each P (map resource_key rs) → P (resource_key r)
resource_at P [] i r at h = absurd (let no : None ≡ Some r = at in cc)
resource_at P (x ∷ xs) zero r at h = let same : x ≡ r = cc in subst (λ y. P (resource_key y)) same h.0
resource_at P (x ∷ xs) (suc i) r at h = resource_at P xs i r at h.1

among_resources : (rs : List Id) (i : ℕ) (r : Id) → slice_get rs i ≡ Some r → IsAmong (resource_key r) (map resource_key rs)
among_resources [] i r at = absurd (let no : None ≡ Some r = at in cc)
among_resources (x ∷ xs) zero r at = let same : x ≡ r = cc in subst (λ y. IsAmong (resource_key r) (resource_key y ∷ map resource_key xs)) (sym same) here
among_resources (x ∷ xs) (suc i) r at = there (among_resources xs i r at)

pub within_resources : (f : Collection) (rs : List Id) (i : ℕ) (r : Id) → slice_get rs i ≡ Some r → AreWithin f (resource_key r ∷ []) (map resource_key rs)
within_resources f rs i r at k m = (resource_key r, among_resources rs i r at, subst (λ x. OpenReaches f (resource_key r) x) (sym (among_single (resource_key r) m)) stay)

-- nothing is remembered for an id for which nothing is found
pub absent_of : {A B : Type 0} (g : A → B) (o : Option A) → is_some o ≡ false → option_map g o ≡ None
absent_of g None h = refl
absent_of g (Some x) h = absurd (cc)
