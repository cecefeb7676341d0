-- Shared entries that are added, and that grow.
use Rattle.std.proofs.Common.{◌≡◌, ◌≢◌, ◌⊎◌, inl, inr, subst, sym, ap, ◌∙◌, List, [], Option, Some, option_map, option_and_then, All, slice_get}
use Rattle.std.specs.Option.{option_map_or}
use Rattle.std.specs.Str.{bytes_eq}
use Rattle.wac_model.specs.Text.{Text, lookup}
use Rattle.wac_model.specs.CoreTree.{Serves}
use Rattle.wac_model.specs.ItemTree.{ItemTree, Items, item, composite, interface, no_items, item_at}
use Rattle.wac_model.specs.Order.{Fits}
use Rattle.wac_bounds.specs.MeetIn.{IsMeetIn}
use Rattle.wac_bounds.proofs.CompositeBounds.{composite_meet}
use Rattle.wac_component.specs.Id.{Id}
use Rattle.wac_component.specs.Collection.{Collection, UseContent, InterfaceContent}
use Rattle.wac_component.specs.Implicit.{identifier}
use Rattle.wac_component.specs.Key.{Stands, AllStand, entry_at, interface_entry, interface_key, item_keys, named_keys}
use Rattle.wac_component.specs.Sound.{IsSound}
use Rattle.wac_component.specs.Tree.{item_tree, items_of}
use Rattle.wac_component.specs.declared.items.ItemKind.{ItemKind}
use Rattle.wac_component.specs.declared.items.ItemKind.TheVariants.{Instance}
use Rattle.wac_component.specs.Entries.{entry_uses, entry_exports, uses_at, exports_at}
use Rattle.wac_component.proofs.Lists.{slice_get-map}
use Rattle.wac_component.proofs.Members.{exports_stand}
use Rattle.wac_component.proofs.Reading.{interface_standing}
use Rattle.wac_names.specs.Class.{Class}
use Rattle.wac_aggregator_promises.specs.Entries.{IsIdentifiedOn}
use Rattle.wac_aggregator_promises.specs.Laws.{GrowthTakesIn}
use Rattle.wac_aggregator_promises.specs.PlainRun.{IsTreeMetWith}
use Rattle.wac_aggregator_promises.specs.Shared.{TakenIds, SharedEntries, IsUseOf, AreShared}
use Rattle.wac_aggregator_promises.specs.TakingIn.{IsSharedKept, IsOldUse, IsNewUse, TakesIn, IsSharedAdded, IsGrown}
use Rattle.wac_aggregator_promises.specs.WitList.{IsLeafItem}
use Rattle.wac_aggregator_promises.proofs.LeafInstances.{leaf_instances}
use Rattle.wac_aggregator_promises.proofs.Members.{one_track}
use Rattle.wac_aggregator_promises.proofs.PlainRuns.{same_track}
use Rattle.wac_aggregator_promises.proofs.Read.{interface_tree, interface_entry_at, item_at-items}
use Rattle.wac_aggregator_promises.proofs.TakenIn.{same_interfaces, same_entry, same_identifier, same_uses, same_exports, same_tree}

-- what the entry of an interface says
module _ (c : Collection) (i : Id) (e : InterfaceContent) (is : entry_at c (interface_key i) ≡ Some (interface_entry e)) where
  content_at : slice_get c.interfaces i.index ≡ Some e
  content_at = same_interfaces (slice_get c.interfaces i.index) (Some e) (sym (slice_get-map interface_entry c.interfaces i.index) ∙ is)

  identifier_of : identifier c i ≡ e.id
  identifier_of = ap (option_and_then (λ x. x.id)) content_at

  uses_of : uses_at c (interface_key i) ≡ e.uses
  uses_of = ap (λ o. option_map_or entry_uses o []) is

  exports_of : exports_at c (interface_key i) ≡ e.exports
  exports_of = ap (λ o. option_map_or entry_exports o []) is

abbrev AreLeaves : List (Text × ItemKind) → Type 0
AreLeaves es = All (λ (e : Text × ItemKind). IsLeafItem e.1) es

use_still : (shared now : SharedEntries) → ((t : Class) (s : Id) → shared t ≡ Some s → now t ≡ Some s) → (v : UseContent) (c : Collection) (u : UseContent) → IsUseOf shared v c u → IsUseOf now v c u
use_still shared now still v c u k = record { track = k.track; is_on = k.is_on; is_shared = still k.track v.interface k.is_shared; same_name = k.same_name }

module _ (taken : TakenIds) (own after : Collection) (shared now : SharedEntries) (c : Collection) (i : Id) (sound : IsSound c) (st : Stands c (interface_key i)) (kept : AreShared taken own shared) (a : IsSharedAdded own shared after now c i) where
  added_uses : uses_at after (interface_key a.entry) ≡ a.content.uses
  added_uses = uses_of after a.entry a.content a.is_at

  added_exports : exports_at after (interface_key a.entry) ≡ a.content.exports
  added_exports = exports_of after a.entry a.content a.is_at

  added_leaves : AreLeaves (exports_at after (interface_key a.entry))
  added_leaves = subst AreLeaves (sym added_exports) a.leaves

  added_tree : item_tree after (Instance a.entry) ≡ item_tree c (Instance i)
  added_tree =
      leaf_instances own after a.entry kept.sound a.sound a.same_leaves a.stands added_leaves (subst (λ (es : List (Text × ItemKind)). AllStand own (named_keys item_keys es)) (sym added_exports) a.exports_stand)
      ∙ ap (λ es. composite item interface no_items (items_of (item_tree own) es)) added_exports
      ∙ ap (λ (es : Items). composite item interface no_items es) a.exports
      ∙ sym (interface_tree c i sound st)

  added_still : (t : Class) (s : Id) → shared t ≡ Some s → now t ≡ Some s
  added_still t s e = by_cases (same_track t a.track)
    where
      by_cases : (t ≡ a.track) ⊎ (t ≢ a.track) → now t ≡ Some s
      by_cases (inl f) = let none = ap shared f ∙ a.none_stood in absurd (cc (none, e))
      by_cases (inr ne) = a.others t ne ∙ e

  added_kept : (t : Class) (s : Id) → shared t ≡ Some s → IsSharedKept own after s
  added_kept t s e =
      let is = kept.stands t s e in
      record { stands = a.grows.standing (interface_key s) is; identifier = same_identifier own after a.grows s is; tree = same_tree own after a.grows s is; uses = same_uses own after a.grows s is; exports = same_exports own after a.grows s is }

  no_old_use : {A : Type 0} (name : Text) (v : UseContent) → IsOldUse own shared a.track name v → A
  no_old_use name v k = let f = k.stood in let g = a.none_stood in absurd (cc (f, g))

  takes_added : TakesIn own shared after now c i
  takes_added = record {
    sound = a.sound;
    track = a.track;
    is_on = a.is_on;
    entry = a.entry;
    is_entry = a.is_entry;
    stands = a.stands;
    identified = record { name = a.is_on.name; identified = identifier_of after a.entry a.content a.is_at ∙ a.same_identifier ∙ a.is_on.identified; on_track = a.is_on.on_track };
    leaves = added_leaves;
    tree = subst (λ (o : Option Id). IsTreeMetWith (option_map (λ s. item_tree own (Instance s)) o) (item_tree c (Instance i)) (Some (item_tree after (Instance a.entry)))) (sym a.none_stood) added_tree;
    old_uses = λ n v k. no_old_use n v k;
    new_uses = λ n u h. let v = a.uses n u h in record { content = v.0; has = ap (λ us. lookup bytes_eq us n) added_uses ∙ v.1; is_use = use_still shared now added_still v.0 c u v.2 };
    only_uses = λ n v l. let k = a.only_uses n v (ap (λ us. lookup bytes_eq us n) (sym added_uses) ∙ l) in inr record { content = k.content; has = k.has; is_use = use_still shared now added_still v c k.content k.is_use };
    still = added_still;
    no_more = λ t s ne e. sym (a.others t ne) ∙ e;
    kept = λ t s ne e. added_kept t s e;
  }

module _ (taken : TakenIds) (own after : Collection) (shared : SharedEntries) (c : Collection) (i : Id) (sound : IsSound c) (st : Stands c (interface_key i)) (kept : AreShared taken own shared) (g : IsGrown own shared after c i) where
  grown_uses : uses_at after (interface_key g.entry) ≡ g.content.uses
  grown_uses = uses_of after g.entry g.content g.is_at

  grown_exports : exports_at after (interface_key g.entry) ≡ g.content.exports
  grown_exports = exports_of after g.entry g.content g.is_at

  grown_leaves : AreLeaves (exports_at after (interface_key g.entry))
  grown_leaves = subst AreLeaves (sym grown_exports) g.leaves

  own_stands : Stands own (interface_key g.entry)
  own_stands = kept.stands g.track g.entry g.stood

  after_stands : Stands after (interface_key g.entry)
  after_stands = g.replaces.standing (interface_key g.entry) own_stands

  -- the trees, by what the old entry, the interface and the new content export
  old_tree : item_tree own (Instance g.entry) ≡ composite item interface no_items (items_of (item_tree own) g.old.exports)
  old_tree = interface_tree own g.entry kept.sound own_stands ∙ ap (λ es. composite item interface no_items (items_of (item_tree own) es)) (exports_of own g.entry g.old g.was_at)

  grown_tree : item_tree after (Instance g.entry) ≡ composite item interface no_items (items_of (item_tree own) g.content.exports)
  grown_tree =
      leaf_instances own after g.entry kept.sound g.sound g.same_leaves after_stands grown_leaves (subst (λ (es : List (Text × ItemKind)). AllStand own (named_keys item_keys es)) (sym grown_exports) g.exports_stand)
      ∙ ap (λ es. composite item interface no_items (items_of (item_tree own) es)) grown_exports

  met_at : (n : Text) → IsMeetIn (Serves Fits) (item_at (items_of (item_tree own) g.old.exports) n) (item_at (items_of (item_tree c) (exports_at c (interface_key i))) n) (Some (item_at (items_of (item_tree own) g.content.exports) n))
  met_at n =
      subst (λ (o : Option ItemTree). IsMeetIn (Serves Fits) o (item_at (items_of (item_tree c) (exports_at c (interface_key i))) n) (Some (item_at (items_of (item_tree own) g.content.exports) n))) (sym (item_at-items (item_tree own) g.old.exports n))
      (subst (λ (o : Option ItemTree). IsMeetIn (Serves Fits) (option_map (item_tree own) (lookup bytes_eq g.old.exports n)) o (Some (item_at (items_of (item_tree own) g.content.exports) n))) (sym (item_at-items (item_tree c) (exports_at c (interface_key i)) n))
      (subst (λ (o : Option ItemTree). IsMeetIn (Serves Fits) (option_map (item_tree own) (lookup bytes_eq g.old.exports n)) (option_map (item_tree c) (lookup bytes_eq (exports_at c (interface_key i)) n)) (Some o)) (sym (item_at-items (item_tree own) g.content.exports n)) (g.exports n)))

  grown_meet : IsMeetIn Fits (item_tree own (Instance g.entry)) (item_tree c (Instance i)) (Some (item_tree after (Instance g.entry)))
  grown_meet =
      subst (λ (x : ItemTree). IsMeetIn Fits x (item_tree c (Instance i)) (Some (item_tree after (Instance g.entry)))) (sym old_tree)
      (subst (λ (x : ItemTree). IsMeetIn Fits (composite item interface no_items (items_of (item_tree own) g.old.exports)) x (Some (item_tree after (Instance g.entry)))) (sym (interface_tree c i sound st))
      (subst (λ (x : ItemTree). IsMeetIn Fits (composite item interface no_items (items_of (item_tree own) g.old.exports)) (composite item interface no_items (items_of (item_tree c) (exports_at c (interface_key i)))) (Some x)) (sym grown_tree)
      (composite_meet item interface no_items (items_of (item_tree own) g.old.exports) no_items (items_of (item_tree c) (exports_at c (interface_key i))) no_items (items_of (item_tree own) g.content.exports) met_at (λ n. (tt, tt, λ t p q. p)))))

  -- another shared entry isn't replaced
  another : (t : Class) (s : Id) → t ≢ g.track → shared t ≡ Some s → interface_key s ≢ interface_key g.entry
  another t s ne e f =
      let same : s ≡ g.entry = ap (λ k. k.id) f in
      ne (one_track own s t g.track (kept.identified t s e) (subst (λ (x : Id). IsIdentifiedOn own x g.track) (sym same) (kept.identified g.track g.entry g.stood)))

  grown_kept : (t : Class) (s : Id) → t ≢ g.track → shared t ≡ Some s → IsSharedKept own after s
  grown_kept t s ne e =
      let is = kept.stands t s e in
      let k = interface_entry_at own s is in
      let here : entry_at own (interface_key s) ≡ Some (interface_entry k.0) = slice_get-map interface_entry own.interfaces s.index ∙ ap (option_map interface_entry) k.1 in
      let same = g.replaces.same_entry (interface_key s) is (another t s ne e) in
      let there : entry_at after (interface_key s) ≡ Some (interface_entry k.0) = same ∙ here in
      let es = exports_of after s k.0 there ∙ sym (exports_of own s k.0 here) in
      let now_stands = g.replaces.standing (interface_key s) is in
      let stand = subst (λ (l : List (Text × ItemKind)). AllStand own (named_keys item_keys l)) (sym (exports_of after s k.0 there)) (exports_stand own k.0 (interface_standing own s k.0 kept.sound is k.1)) in
      record {
        stands = now_stands;
        identifier = identifier_of after s k.0 there ∙ sym (identifier_of own s k.0 here);
        tree = leaf_instances own after s kept.sound g.sound g.same_leaves now_stands (subst AreLeaves (sym es) (kept.leaves t s e)) stand
            ∙ ap (λ l. composite item interface no_items (items_of (item_tree own) l)) es ∙ sym (interface_tree own s kept.sound is);
        uses = uses_of after s k.0 there ∙ sym (uses_of own s k.0 here);
        exports = es;
      }

  -- the uses that stood on the track are the old entry's
  old_use : (n : Text) (v : UseContent) → IsOldUse own shared g.track n v → lookup bytes_eq g.old.uses n ≡ Some v
  old_use n v k =
      let same = same_entry (sym g.stood ∙ k.stood) in
      ap (λ us. lookup bytes_eq us n) (sym (uses_of own g.entry g.old g.was_at)) ∙ subst (λ (x : Id). lookup bytes_eq (uses_at own (interface_key x)) n ≡ Some v) (sym same) k.has

  only_grown : (n : Text) (v : UseContent) → (lookup bytes_eq g.old.uses n ≡ Some v) ⊎ IsNewUse shared c i n v → IsOldUse own shared g.track n v ⊎ IsNewUse shared c i n v
  only_grown n v (inl l) = inl record { entry = g.entry; stood = g.stood; has = ap (λ us. lookup bytes_eq us n) (uses_of own g.entry g.old g.was_at) ∙ l }
  only_grown n v (inr k) = inr k

  takes_grown : TakesIn own shared after shared c i
  takes_grown = record {
    sound = g.sound;
    track = g.track;
    is_on = g.is_on;
    entry = g.entry;
    is_entry = g.stood;
    stands = after_stands;
    identified = let k = kept.identified g.track g.entry g.stood in record { name = k.name; identified = identifier_of after g.entry g.content g.is_at ∙ g.same_identifier ∙ sym (identifier_of own g.entry g.old g.was_at) ∙ k.identified; on_track = k.on_track };
    leaves = grown_leaves;
    tree = subst (λ (o : Option Id). IsTreeMetWith (option_map (λ s. item_tree own (Instance s)) o) (item_tree c (Instance i)) (Some (item_tree after (Instance g.entry)))) (sym g.stood) grown_meet;
    old_uses = λ n v k. ap (λ us. lookup bytes_eq us n) grown_uses ∙ g.old_uses n v (old_use n v k);
    new_uses = λ n u h. let v = g.uses n u h in record { content = v.0; has = ap (λ us. lookup bytes_eq us n) grown_uses ∙ v.1; is_use = v.2 };
    only_uses = λ n v l. only_grown n v (g.only_uses n v (ap (λ us. lookup bytes_eq us n) (sym grown_uses) ∙ l));
    still = λ t s e. e;
    no_more = λ t s ne e. e;
    kept = grown_kept;
  }

pub growth_takes_in : GrowthTakesIn
growth_takes_in = record { added = takes_added; grown = takes_grown }
