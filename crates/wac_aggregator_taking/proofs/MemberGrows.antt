-- A shared entry grows by an interface as WIT gives them, or can't.
use Rattle.std.proofs.Common.{◌≡◌, ◌≢◌, ◌⊎◌, inl, inr, refl, ap, sym, subst, ◌∙◌, Contains, not, filter, is_some, List, [], ◌∷◌, Option, Some, None, slice_get}
use Rattle.std.specs.List.{IsDistinct}
use Rattle.std.specs.Map.{keys_of}
use Rattle.std.specs.Option.{option_map, option_map_or, option_or}
use Rattle.std.specs.Str.{bytes_eq}
use Rattle.std.proofs.lemmas.List.Elements.{All-contains, All-weaker, Contains-append_right}
use Rattle.std.proofs.lemmas.Slice.Eq.{bytes_eq-Decides}
use Rattle.wac_model.specs.Text.{Text, lookup}
use Rattle.wac_model.specs.CoreTree.{Serves}
use Rattle.wac_model.specs.ItemTree.{ItemTree}
use Rattle.wac_model.specs.Order.{Fits}
use Rattle.wac_bounds.specs.MeetIn.{IsMeetIn}
use Rattle.wac_component.specs.Collection.{Collection, UseContent, InterfaceContent}
use Rattle.wac_component.specs.Entries.{entry_uses, HasUse, uses_at, exports_at, identifier_at}
use Rattle.wac_component.specs.Id.{Id}
use Rattle.wac_component.specs.Key.{Key, Each, Stands, AllStand, interface_entry, interface_key, interface_keys, item_keys, named_keys, use_keys}
use Rattle.wac_aggregator_memo.specs.Memo.{AddsPair, memo_of}
use Rattle.wac_component.specs.Replacing.{NamesReach}
use Rattle.wac_component.specs.Sound.{IsSound}
use Rattle.wac_component.specs.Tree.{item_tree}
use Rattle.wac_component.specs.declared.items.ItemKind.{ItemKind}
use Rattle.wac_component.proofs.Among.{each_found}
use Rattle.wac_component.proofs.Keys.{Each-right}
use Rattle.wac_component.proofs.Reading.{interface_at}
use Rattle.wac_component.proofs.Replacing.{Puts-replaced, IsSound-replaced, Replaces-replaced}
use Rattle.wac_core_merge.specs.Names.{is_new}
use Rattle.wac_core_merge.proofs.EntryLemmas.{All-found}
use Rattle.wac_core_merge.proofs.NameLemmas.{lookup-with_new}
use Rattle.wac_merge.specs.Built.{uses_of_both}
use Rattle.wac_merge.specs.Items.{ExternKinds, AreUnhidden}
use Rattle.wac_names.specs.Class.{class_of}
use Rattle.wac_aggregator_promises.specs.Entries.{IsIdentifiedOn, ReachesByUses, stay}
use Rattle.wac_aggregator_promises.specs.Shared.{TakenIds, AreShared, IsUseOf, CannotTake, no_bound, interfaces_clash, names_clash}
use Rattle.wac_aggregator_promises.specs.TakingIn.{IsNewUse, IsGrown}
use Rattle.wac_aggregator_promises.specs.TreeSets.{HaveNoLowerBound}
use Rattle.wac_aggregator_promises.specs.WitList.{IsLeafItem, AreWit}
use Rattle.wac_aggregator_promises.proofs.Growing.{growth_takes_in}
use Rattle.wac_aggregator_promises.proofs.Members.{one_track}
use Rattle.wac_aggregator_promises.proofs.Read.{exports_of_entry, lookup_contains}
use Rattle.wac_aggregator_promises.proofs.TakenIn.{sharing_goes_on}
use Rattle.wac_aggregator_promises.proofs.WitReasons.{clashing_exports}
use Rattle.wac_aggregator_memo.specs.declared.memo.Memo.{Memo}
use Rattle.wac_aggregator_narrowing.specs.Traced.{IsArrowed}
use Rattle.wac_aggregator_narrowing.specs.Narrows.{grown}
use Rattle.wac_aggregator_errors.specs.declared.error.AggregateError.{AggregateError}
use Rattle.wac_aggregator_errors.specs.declared.error.AggregateError.TheVariants.{Memory}
use Rattle.wac_aggregator_taking.specs.Growing.{AreMetWith}
use Rattle.wac_aggregator_taking.specs.Members.{HasTakenIn, TakesMembers, at_entry, in_cycle, IsNotTaken, IsMemberRefusal, roots_of}
use Rattle.wac_aggregator_uses.specs.Differ.{SaysUsesDiffer, of_interfaces, of_names, AreRefusedLists}
use Rattle.wac_aggregator_alike.proofs.Answering.{filter_to}
use Rattle.wac_aggregator_errors.proofs.Saying.{not_memory}
use Rattle.wac_aggregator_taking.specs.Refused.{HasApartLeaves, AreRefusedItems}
use Rattle.wac_aggregator_taking.specs.Takes.{MayTake, MayPut, shared_in, shared_keys, state_of}
use Rattle.wac_aggregator_uses.specs.Uses.{AreOfOne, UsesAgree}
use Rattle.wac_aggregator_taking.specs.declared.state.Merging.{Merging}
use Rattle.wac_aggregator_taking.proofs.Identifiers.{has_identifier}
use Rattle.wac_aggregator_taking.proofs.MemberParts.{IsLeafTree, AreLeaves, leaf_tree, leaf_is, leaf_fits, taken_leaves, taken_trees, used_of, used_by, AreMore-put, TakesMembers-put}
use Rattle.wac_aggregator_taking.proofs.MemberCycles.{grown_arrowed, grown_cycle}
use Rattle.wac_aggregator_taking.proofs.Members.{AreMore-refl}
use Rattle.wac_aggregator_taking.proofs.TakeLemmas.{lookup-shared, shared_stands}

-- ---- lists of named values

-- under distinct names, what is in the list is found
pub found_use : (us : List (Text × UseContent)) → IsDistinct bytes_eq (keys_of us) → (n : Text) (v : UseContent) → Contains us (n, v) → lookup bytes_eq us n ≡ Some v
found_use us h n v m = All-contains (λ (e : Text × UseContent). lookup bytes_eq us e.0 ≡ Some e.1) us (n, v) (All-found bytes_eq bytes_eq-Decides us h) m

found_item : (es : ExternKinds) → AreUnhidden es → (n : Text) (x : ItemKind) → Contains es (n, x) → lookup bytes_eq es n ≡ Some x
found_item es h n x m = All-contains (λ (e : Text × ItemKind). lookup bytes_eq es e.0 ≡ Some e.1) es (n, x) h m

-- among the uses of both a new one is found, where its name is new
new_found : (us vs : List (Text × UseContent)) → IsDistinct bytes_eq (keys_of (uses_of_both us vs)) → (n : Text) (v : UseContent) → lookup bytes_eq us n ≡ None → Contains vs (n, v) → lookup bytes_eq (uses_of_both us vs) n ≡ Some v
new_found us vs h n v none m =
    let kept : List (Text × UseContent) = filter (λ (t : Text × UseContent). is_new bytes_eq us t.0) vs in
    found_use (uses_of_both us vs) h n v (Contains-append_right us kept (n, v) (filter_to (λ (t : Text × UseContent). is_new bytes_eq us t.0) vs (n, v) m (ap (λ (o : Option UseContent). not (is_some o)) none)))

old_found : (us vs : List (Text × UseContent)) (n : Text) (v : UseContent) → lookup bytes_eq us n ≡ Some v → lookup bytes_eq (uses_of_both us vs) n ≡ Some v
old_found us vs n v is = lookup-with_new bytes_eq bytes_eq-Decides us vs n ∙ ap (λ (o : Option UseContent). option_or o (lookup bytes_eq vs n)) is

-- and nothing else
found_in : (us vs : List (Text × UseContent)) (n : Text) (v : UseContent) → lookup bytes_eq (uses_of_both us vs) n ≡ Some v → (lookup bytes_eq us n ≡ Some v) ⊎ Contains vs (n, v)
found_in us vs n v is = at (lookup bytes_eq us n) (sym (lookup-with_new bytes_eq bytes_eq-Decides us vs n) ∙ is)
  where
    at : (o : Option UseContent) → option_or o (lookup bytes_eq vs n) ≡ Some v → (o ≡ Some v) ⊎ Contains vs (n, v)
    at None h = inr (lookup_contains vs n v h)
    at (Some w) h = inl h

-- ---- leaves

leaf_found : (es : ExternKinds) (n : Text) → AreLeaves es → (x : ItemKind) → lookup bytes_eq es n ≡ Some x → IsLeafItem x
leaf_found es n h x is = All-contains (λ (e : Text × ItemKind). IsLeafItem e.1) es (n, x) h (lookup_contains es n x is)

-- what is met of leaves is a leaf
met_leaf : (c d : Collection) (o q : Option ItemKind) (x : ItemKind) → ((y : ItemKind) → o ≡ Some y → IsLeafItem y) → ((y : ItemKind) → q ≡ Some y → IsLeafItem y)
    → IsMeetIn (Serves Fits) (option_map (item_tree c) o) (option_map (item_tree c) q) (Some (Some (item_tree d x))) → IsLeafItem x
met_leaf c d o q x = at o q
  where
    below : (y : ItemKind) → IsLeafItem y → Fits (item_tree d x) (item_tree c y) → IsLeafItem x
    below y leaf fits = leaf_is d x (subst IsLeafTree (sym (leaf_fits (item_tree d x) (item_tree c y) (leaf_tree c y leaf) fits)) (leaf_tree c y leaf))

    at : (o q : Option ItemKind) → ((y : ItemKind) → o ≡ Some y → IsLeafItem y) → ((y : ItemKind) → q ≡ Some y → IsLeafItem y) → IsMeetIn (Serves Fits) (option_map (item_tree c) o) (option_map (item_tree c) q) (Some (Some (item_tree d x))) → IsLeafItem x
    at (Some y) q h g m = below y (h y refl) m.0
    at None (Some y) h g m = below y (g y refl) m.1
    at None None h g m = absurd (m.2 None tt tt)

met_leaves : (c d : Collection) (es ts ms : ExternKinds) → AreUnhidden ms → AreLeaves es → AreLeaves ts → ((n : Text) → IsMeetIn (Serves Fits) (option_map (item_tree c) (lookup bytes_eq es n)) (option_map (item_tree c) (lookup bytes_eq ts n)) (Some (option_map (item_tree d) (lookup bytes_eq ms n)))) → AreLeaves ms
met_leaves c d es ts ms found h g meets = All-weaker (λ (e : Text × ItemKind). lookup bytes_eq ms e.0 ≡ Some e.1) (λ (e : Text × ItemKind). IsLeafItem e.1) (λ (e : Text × ItemKind) is. of e.0 e.1 is) ms found
  where
    of : (n : Text) (x : ItemKind) → lookup bytes_eq ms n ≡ Some x → IsLeafItem x
    of n x is = met_leaf c d (lookup bytes_eq es n) (lookup bytes_eq ts n) x (leaf_found es n h) (leaf_found ts n g)
        (subst (λ (o : Option ItemKind). IsMeetIn (Serves Fits) (option_map (item_tree c) (lookup bytes_eq es n)) (option_map (item_tree c) (lookup bytes_eq ts n)) (Some (option_map (item_tree d) o))) is (meets n))

-- ---- what stands before

module _ (f : Collection) (a : Merging) (may : MayTake f a) (p e : Id) (name : Text) (us : List (Text × UseContent)) (es : ExternKinds) (put : MayPut f a p us es) (identified : identifier_at f (interface_key p) ≡ Some name) (shared : shared_in a.shared.entries (class_of name) ≡ Some e)
    (taken : TakenIds) (wit : AreWit f (ReachesByUses f p)) (has : HasTakenIn a taken) (old : InterfaceContent) (was : slice_get a.types.interfaces e.index ≡ Some old) where
  on_track : IsIdentifiedOn f p (class_of name)
  on_track = record { name = name; identified = has_identifier f (interface_key p) name identified; on_track = refl }

  -- what the entries use and export
  their_uses : uses_at f (interface_key p) ≡ put.content.uses
  their_uses = ap (λ o. option_map_or entry_uses o []) (interface_at f p put.content put.taken.entry)

  their_exports : exports_at f (interface_key p) ≡ put.content.exports
  their_exports = exports_of_entry f p put.content put.taken.entry

  own_uses : uses_at a.types (interface_key e) ≡ old.uses
  own_uses = ap (λ o. option_map_or entry_uses o []) (interface_at a.types e old was)

  own_exports : exports_at a.types (interface_key e) ≡ old.exports
  own_exports = exports_of_entry a.types e old was

  own_stands : Stands a.types (interface_key e)
  own_stands = shared_stands (state_of a) may.kept (interface_key e) (lookup-shared (class_of name) a.shared.entries e shared)

  their_leaves : AreLeaves put.content.exports
  their_leaves = subst AreLeaves their_exports (wit.exports p stay)

  new_leaves : AreLeaves es
  new_leaves = (taken_leaves f (state_of a) put.content.exports es put.taken.exports their_leaves).0

  own_leaves : AreLeaves old.exports
  own_leaves = subst AreLeaves own_exports (has.shared.leaves (class_of name) e shared)

  -- the trees of what was taken in
  new_trees : (n : Text) → option_map (item_tree a.types) (lookup bytes_eq es n) ≡ option_map (item_tree f) (lookup bytes_eq (exports_at f (interface_key p)) n)
  new_trees n = taken_trees f (state_of a) put.content.exports es put.taken.exports their_leaves n ∙ ap (λ xs. option_map (item_tree f) (lookup bytes_eq xs n)) (sym their_exports)

  -- each use of the interface was taken in, and no others
  use_taken : (n : Text) (u : UseContent) → HasUse f (interface_key p) n u → (v : UseContent) × Contains us (n, v) × IsUseOf (shared_in a.shared.entries) v f u
  use_taken n u h = used_of f a may taken has put.content.uses us put.used n u (subst (λ xs. Contains xs (n, u)) their_uses h)

  use_from : (n : Text) (v : UseContent) → Contains us (n, v) → (u : UseContent) × HasUse f (interface_key p) n u × IsUseOf (shared_in a.shared.entries) v f u
  use_from n v m = let k = used_by f a may taken has put.content.uses us put.used n v m in (k.0, subst (λ xs. Contains xs (n, k.0)) (sym their_uses) k.1, k.2)

  -- ---- refusals

  -- the entry can't take it in
  not_taken : CannotTake a.types (shared_in a.shared.entries) f p → IsNotTaken f (ReachesByUses f p) taken
  not_taken cannot = record { more = taken; are_more = AreMore-refl f (ReachesByUses f p) taken; hinders = at_entry a.types (shared_in a.shared.entries) p has.shared stay cannot }

  uses_cannot : IsDistinct bytes_eq (keys_of old.uses) → (r : AggregateError) → SaysUsesDiffer a.types old.uses us r → CannotTake a.types (shared_in a.shared.entries) f p
  uses_cannot distinct r (of_interfaces n expected found u v mu mv eu ev apart says) =
      let k = use_from n v mv in
      interfaces_clash (class_of name) e n u k.0 (class_of expected) k.2.track on_track shared
      (ap (λ xs. lookup bytes_eq xs n) own_uses ∙ found_use old.uses distinct n u mu) k.1
      (record { name = expected; identified = eu; on_track = refl }) k.2.is_on
      (λ same. apart (same ∙ one_track a.types v.interface k.2.track (class_of found) (has.shared.identified k.2.track v.interface k.2.is_shared) (record { name = found; identified = ev; on_track = refl })))
  uses_cannot distinct r (of_names n u v mu mv apart says) =
      let k = use_from n v mv in
      names_clash (class_of name) e n u k.0 on_track shared (ap (λ xs. lookup bytes_eq xs n) own_uses ∙ found_use old.uses distinct n u mu) k.1 (λ same. apart (same ∙ sym k.2.same_name))

  -- its uses differ from those of the entry
  pub member_uses_refused : IsDistinct bytes_eq (keys_of old.uses) → (r : AggregateError) → AreRefusedLists a.types old.uses us r → IsMemberRefusal f (ReachesByUses f p) taken r
  member_uses_refused distinct r h x says merging = not_taken (uses_cannot distinct r (h (not_memory r x says)))

  items_cannot : AreUnhidden es → HasApartLeaves a.types old.exports es → CannotTake a.types (shared_in a.shared.entries) f p
  items_cannot found k = at (lookup bytes_eq (exports_at f (interface_key p)) k.name) refl (sym (new_trees k.name) ∙ ap (option_map (item_tree a.types)) (found_item es found k.name k.second k.is_second))
    where
      at : (o : Option ItemKind) → lookup bytes_eq (exports_at f (interface_key p)) k.name ≡ o → option_map (item_tree f) o ≡ Some (item_tree a.types k.second) → CannotTake a.types (shared_in a.shared.entries) f p
      at None is same = absurd (cc)
      at (Some y) is same =
          let tree : item_tree f y ≡ item_tree a.types k.second = cc in
          no_bound (class_of name) e on_track shared
          (clashing_exports a.types f e p k.name k.first y may.kept.good.sound put.taken.sound own_stands put.taken.stands (ap (λ xs. lookup bytes_eq xs k.name) own_exports ∙ k.is_first) is
          (subst (λ (t : ItemTree). HaveNoLowerBound (item_tree a.types k.first) t) (sym tree) k.no_bound))

  -- its exports can't be met with those of the entry
  pub member_items_refused : AreUnhidden es → (r : AggregateError) → AreRefusedItems a.types old.exports es r → IsMemberRefusal f (ReachesByUses f p) taken r
  member_items_refused found r h x says merging = not_taken (items_cannot found ((h (not_memory r x says)).leaves new_leaves))

  -- ---- growth

  module _ (new : InterfaceContent) (old_named : AllStand a.types (interface_keys old)) (same_id : new.id ≡ old.id)
      (uses : (P : Key → Type 0) → Each P (named_keys use_keys old.uses) → Each P (named_keys use_keys us) → Each P (named_keys use_keys new.uses)) (d : Collection) (met : AreMetWith a.types d old.exports es new.exports) (uses_are : new.uses ≡ uses_of_both old.uses us) (agree : UsesAgree a.types old.uses us)
      (distinct : IsDistinct bytes_eq (keys_of new.uses)) (new_are_found : AreUnhidden new.exports) (named : AllStand d (interface_keys new)) (acyclic : ¬ (NamesReach d (interface_keys new) (interface_key e))) where
    mid_sound : IsSound d
    mid_sound = (met.on.steps (shared_keys a.shared.entries) may.kept.good).good.sound

    mid_shared : AreShared taken d (shared_in a.shared.entries)
    mid_shared = sharing_goes_on.added taken a.types d (shared_in a.shared.entries) has.shared met.on.grows mid_sound

    mid_stands : Stands d (interface_key e)
    mid_stands = met.on.grows.standing (interface_key e) own_stands

    -- what stood has the trees that it had
    old_trees : (n : Text) → option_map (item_tree d) (lookup bytes_eq old.exports n) ≡ option_map (item_tree a.types) (lookup bytes_eq old.exports n)
    old_trees n = at (lookup bytes_eq old.exports n) refl
      where
        at : (o : Option ItemKind) → lookup bytes_eq old.exports n ≡ o → option_map (item_tree d) o ≡ option_map (item_tree a.types) o
        at None is = refl
        at (Some y) is = ap {B = Option ItemTree} (λ (t : ItemTree). Some t) (met.on.grows.trees y (each_found (Stands a.types) old.exports n y is (Each-right (Stands a.types) (named_keys use_keys old.uses) (named_keys item_keys old.exports) old_named)))

    exports_met : (n : Text) → IsMeetIn (Serves Fits) (option_map (item_tree d) (lookup bytes_eq old.exports n)) (option_map (item_tree f) (lookup bytes_eq (exports_at f (interface_key p)) n)) (Some (option_map (item_tree d) (lookup bytes_eq new.exports n)))
    exports_met n =
        subst (λ (o : Option ItemTree). IsMeetIn (Serves Fits) o (option_map (item_tree f) (lookup bytes_eq (exports_at f (interface_key p)) n)) (Some (option_map (item_tree d) (lookup bytes_eq new.exports n)))) (sym (old_trees n))
        (subst (λ (o : Option ItemTree). IsMeetIn (Serves Fits) (option_map (item_tree a.types) (lookup bytes_eq old.exports n)) o (Some (option_map (item_tree d) (lookup bytes_eq new.exports n)))) (new_trees n) (met.meets n))

    -- a use of the entry under the name of a new one is that one
    one_use : (n : Text) (w v u : UseContent) → lookup bytes_eq old.uses n ≡ Some w → AreOfOne a.types w v → IsUseOf (shared_in a.shared.entries) v f u → IsUseOf (shared_in a.shared.entries) w f u
    one_use n w v u is one k =
        let stood = has.shared.no_others (class_of name) e n w shared (ap (λ xs. lookup bytes_eq xs n) own_uses ∙ is) in
        let first = has.shared.identified stood.is_use.track w.interface stood.is_use.is_shared in
        let second = has.shared.identified k.track v.interface k.is_shared in
        let same : stood.is_use.track ≡ k.track = sym first.on_track ∙ one.tracks first.name second.name first.identified second.identified ∙ second.on_track in
        record { track = k.track; is_on = k.is_on; is_shared = ap (shared_in a.shared.entries) (sym same) ∙ stood.is_use.is_shared; same_name = one.names ∙ k.same_name }

    uses_put_in : (n : Text) (u : UseContent) → HasUse f (interface_key p) n u → (v : UseContent) × (lookup bytes_eq new.uses n ≡ Some v) × IsUseOf (shared_in a.shared.entries) v f u
    uses_put_in n u h = let k = use_taken n u h in at k.0 k.1 k.2 (lookup bytes_eq old.uses n) refl
      where
        look : {v : UseContent} → lookup bytes_eq (uses_of_both old.uses us) n ≡ Some v → lookup bytes_eq new.uses n ≡ Some v
        look is = ap (λ xs. lookup bytes_eq xs n) uses_are ∙ is

        at : (v : UseContent) → Contains us (n, v) → IsUseOf (shared_in a.shared.entries) v f u → (o : Option UseContent) → lookup bytes_eq old.uses n ≡ o → (v : UseContent) × (lookup bytes_eq new.uses n ≡ Some v) × IsUseOf (shared_in a.shared.entries) v f u
        at v m k None none = (v, look (new_found old.uses us (subst (λ xs. IsDistinct bytes_eq (keys_of xs)) uses_are distinct) n v none m), k)
        at v m k (Some w) is = (w, look (old_found old.uses us n w is), one_use n w v u is (agree n w v is m) k)

    uses_kept : (n : Text) (v : UseContent) → lookup bytes_eq old.uses n ≡ Some v → lookup bytes_eq new.uses n ≡ Some v
    uses_kept n v is = ap (λ xs. lookup bytes_eq xs n) uses_are ∙ old_found old.uses us n v is

    only_those : (n : Text) (v : UseContent) → lookup bytes_eq new.uses n ≡ Some v → (lookup bytes_eq old.uses n ≡ Some v) ⊎ IsNewUse (shared_in a.shared.entries) f p n v
    only_those n v is = at (found_in old.uses us n v (ap (λ xs. lookup bytes_eq xs n) (sym uses_are) ∙ is))
      where
        at : (lookup bytes_eq old.uses n ≡ Some v) ⊎ Contains us (n, v) → (lookup bytes_eq old.uses n ≡ Some v) ⊎ IsNewUse (shared_in a.shared.entries) f p n v
        at (inl h) = inl h
        at (inr m) = let k = use_from n v m in inr record { content = k.0; has = k.1; is_use = k.2 }

    is_grown : IsGrown d (shared_in a.shared.entries) (grown d e new) f p
    is_grown = record {
      sound = IsSound-replaced d e (interface_entry new) mid_stands mid_sound named acyclic;
      same_leaves = record { number = refl; resources = refl; defined = refl; funcs = refl };
      track = class_of name;
      is_on = on_track;
      entry = e;
      stood = shared;
      replaces = Replaces-replaced d e (interface_entry new) mid_stands mid_sound;
      old = old;
      was_at = met.on.grows.same_entry (interface_key e) own_stands ∙ interface_at a.types e old was;
      content = new;
      is_at = (Puts-replaced d e (interface_entry new) mid_stands).entry;
      same_identifier = same_id;
      leaves = met_leaves a.types d old.exports es new.exports new_are_found own_leaves new_leaves met.meets;
      exports_stand = met.stand;
      exports = exports_met;
      old_uses = uses_kept;
      uses = uses_put_in;
      only_uses = only_those;
    }

    grown_shared : AreShared ((f, p) ∷ taken) (grown d e new) (shared_in a.shared.entries)
    grown_shared = sharing_goes_on.more taken d (grown d e new) (shared_in a.shared.entries) (shared_in a.shared.entries) f p mid_shared
        (growth_takes_in.grown taken d (grown d e new) (shared_in a.shared.entries) f p put.taken.sound put.taken.stands mid_shared is_grown)

    -- the entry takes it in
    pub TakesMembers-grown : (w : Collection) (n : Memo) → w ≡ grown d e new → AddsPair (memo_of a.taken) (memo_of n) (interface_key p) (interface_key e) → TakesMembers f a (record a { types = w; taken = n }) (ReachesByUses f p) taken
    TakesMembers-grown w n is adds =
        TakesMembers-put f a (record a { types = w; taken = n }) p e taken put.taken.stands has (subst (λ (c : Collection). AreShared ((f, p) ∷ taken) c (shared_in a.shared.entries)) (sym is) grown_shared) has.found adds
        (subst (λ (c : Collection). IsArrowed c (shared_keys a.shared.entries) (roots_of ((f, p) ∷ taken))) (sym is) (grown_arrowed f a may p e name us es put identified shared old new was old_named same_id uses d met taken has acyclic))

  -- where it would lead back to itself, its track does
  module _ (new : InterfaceContent) (old_named : AllStand a.types (interface_keys old)) (same_id : new.id ≡ old.id)
      (uses : (P : Key → Type 0) → Each P (named_keys use_keys old.uses) → Each P (named_keys use_keys us) → Each P (named_keys use_keys new.uses)) (d : Collection) (met : AreMetWith a.types d old.exports es new.exports) where
    in_circle : NamesReach d (interface_keys new) (interface_key e) → IsNotTaken f (ReachesByUses f p) taken
    in_circle reach = record {
      more = (f, p) ∷ taken;
      are_more = AreMore-put f p taken;
      hinders = in_cycle (class_of name) (grown_cycle f a may p e name us es put identified shared old new was old_named same_id uses d met taken has reach);
    }

    pub member_cycle_refused : (r : AggregateError) → (r ≢ Memory → NamesReach d (interface_keys new) (interface_key e)) → IsMemberRefusal f (ReachesByUses f p) taken r
    member_cycle_refused r h x says merging = in_circle (h (not_memory r x says))

-- a failed allocation isn't a refusal of two that can't be merged
pub memory_apart : (f : Collection) (P : Id → Type 0) (taken : TakenIds) → IsMemberRefusal f P taken Memory
memory_apart f P taken x says merging = absurd (not_memory Memory x says refl)
