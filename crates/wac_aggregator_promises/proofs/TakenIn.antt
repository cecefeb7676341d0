-- Shared entries after one more interface was taken in.
use Rattle.std.proofs.Common.{List, All, option_and_then, slice_get, ◌≡◌, ◌≢◌, ◌⊎◌, inl, inr, refl, subst, sym, ap, ◌∙◌, arith, [], ◌∷◌, Option, Some, None, option_map, Contains}
use Rattle.std.specs.Option.{option_map_or}
use Rattle.std.specs.Str.{bytes_eq}
use Rattle.wac_model.specs.Text.{Text, lookup}
use Rattle.wac_model.specs.ItemTree.{ItemTree}
use Rattle.wac_component.specs.Id.{Id}
use Rattle.wac_component.specs.Collection.{Collection, UseContent, InterfaceContent}
use Rattle.wac_component.specs.Key.{Stands, interface_entry, interface_key}
use Rattle.wac_component.specs.Growth.{Extends}
use Rattle.wac_component.specs.Implicit.{identifier}
use Rattle.wac_component.specs.Sound.{IsSound}
use Rattle.wac_component.specs.Tree.{item_tree}
use Rattle.wac_component.specs.declared.items.ItemKind.{ItemKind}
use Rattle.wac_component.specs.declared.items.ItemKind.TheVariants.{Instance}
use Rattle.wac_component.specs.Entries.{HasUse, entry_uses, entry_exports, uses_at, exports_at}
use Rattle.wac_component.proofs.Lists.{slice_get-map}
use Rattle.wac_component.proofs.Among.{Contains-first, Contains-later, Contains-cases}
use Rattle.wac_names.specs.Class.{Class}
use Rattle.wac_aggregator_promises.specs.Entries.{IsIdentifiedOn}
use Rattle.wac_aggregator_promises.specs.Laws.{SharingGoesOn}
use Rattle.wac_aggregator_promises.specs.PlainRun.{IsTreeMetWith}
use Rattle.wac_aggregator_promises.specs.Shared.{TakenIds, SharedEntries, IsTakenOn, IsTakenTree, IsUseOf, HasSharedUse, IsTakenUse, AreShared}
use Rattle.wac_aggregator_promises.specs.TakingIn.{IsOldUse, IsNewUse, TakesIn, none_shared}
use Rattle.wac_aggregator_promises.specs.TreeSets.{IsMeetOf}
use Rattle.wac_aggregator_promises.specs.WitList.{IsLeafItem}
use Rattle.wac_aggregator_promises.proofs.Members.{one_track}
use Rattle.wac_aggregator_promises.proofs.PlainRuns.{same_track}
use Rattle.wac_aggregator_promises.proofs.Sets.{meet_of_more, meet_of_one, meet_moves}

pub same_entry : {k l : Id} → ◌≡◌ {A = Option Id} (Some k) (Some l) → k ≡ l
same_entry e = cc e

abbrev IsOneInterface : Collection → Id → Collection → Id → Type 0
IsOneInterface c i d j = ◌≡◌ {A = Collection × Id} (c, i) (d, j)

start : (own : Collection) → IsSound own → AreShared [] own none_shared
start own sound = record {
  sound = sound;
  stands = λ t s e. cc e;
  identified = λ t s e. cc e;
  leaves = λ t s e. cc e;
  remembered = λ t c i k. absurd (omega (arith, k.among.1));
  trees = λ t s e. cc e;
  uses = λ t s c i n u e. cc e;
  no_others = λ t s n v e. cc e;
}

-- what was only added to says the same of a shared entry
pub same_interfaces : (o r : Option InterfaceContent) → option_map interface_entry o ≡ option_map interface_entry r → o ≡ r
same_interfaces None None e = refl
same_interfaces None (Some x) e = cc e
same_interfaces (Some x) None e = cc e
same_interfaces (Some x) (Some y) e = let f : x ≡ y = cc e in ap (λ (z : InterfaceContent). Some z) f

module _ (own after : Collection) (grown : Extends own after) (s : Id) (st : Stands own (interface_key s)) where
  same_content : slice_get after.interfaces s.index ≡ slice_get own.interfaces s.index
  same_content = same_interfaces (slice_get after.interfaces s.index) (slice_get own.interfaces s.index)
      (sym (slice_get-map interface_entry after.interfaces s.index) ∙ grown.same_entry (interface_key s) st ∙ slice_get-map interface_entry own.interfaces s.index)

  pub same_identifier : identifier after s ≡ identifier own s
  same_identifier = ap (option_and_then (λ e. e.id)) same_content

  pub same_uses : uses_at after (interface_key s) ≡ uses_at own (interface_key s)
  same_uses = ap (λ o. option_map_or entry_uses o []) (grown.same_entry (interface_key s) st)

  pub same_exports : exports_at after (interface_key s) ≡ exports_at own (interface_key s)
  same_exports = ap (λ o. option_map_or entry_exports o []) (grown.same_entry (interface_key s) st)

  pub same_tree : item_tree after (Instance s) ≡ item_tree own (Instance s)
  same_tree = grown.trees (Instance s) (st, tt)

added : (taken : TakenIds) (own after : Collection) (shared : SharedEntries) → AreShared taken own shared → Extends own after → IsSound after → AreShared taken after shared
added taken own after shared kept grown sound = record {
  sound = sound;
  stands = λ t s e. grown.standing (interface_key s) (kept.stands t s e);
  identified = λ t s e. let k = kept.identified t s e in record { name = k.name; identified = same_identifier own after grown s (kept.stands t s e) ∙ k.identified; on_track = k.on_track };
  leaves = λ t s e. subst (λ (l : List (Text × ItemKind)). All (λ (x : Text × ItemKind). IsLeafItem x.1) l) (sym (same_exports own after grown s (kept.stands t s e))) (kept.leaves t s e);
  remembered = kept.remembered;
  trees = λ t s e. subst (λ (x : ItemTree). IsMeetOf x (IsTakenTree taken t)) (sym (same_tree own after grown s (kept.stands t s e))) (kept.trees t s e);
  uses = λ t s c i n u e k h. let g = kept.uses t s c i n u e k h in record { content = g.content; has = ap (λ us. lookup bytes_eq us n) (same_uses own after grown s (kept.stands t s e)) ∙ g.has; is_use = g.is_use };
  no_others = λ t s n v e l. kept.no_others t s n v e (ap (λ us. lookup bytes_eq us n) (sym (same_uses own after grown s (kept.stands t s e))) ∙ l);
}

module _ (taken : TakenIds) (own after : Collection) (shared now : SharedEntries) (c : Collection) (i : Id) (kept : AreShared taken own shared) (takes : TakesIn own shared after now c i) where
  abbrev more : TakenIds
  more = (c, i) ∷ taken

  old_on : (t : Class) (d : Collection) (j : Id) → IsTakenOn taken t d j → IsTakenOn more t d j
  old_on t d j k = record { among = Contains-later (d, j) (c, i) taken k.among; is_on = k.is_on }

  new_on : IsTakenOn more takes.track c i
  new_on = record { among = Contains-first (c, i) taken; is_on = takes.is_on }

  taken_cases : (t : Class) (d : Collection) (j : Id) → IsTakenOn more t d j → ((takes.track ≡ t) × IsOneInterface c i d j) ⊎ IsTakenOn taken t d j
  taken_cases t d j k = by_cases (Contains-cases (d, j) (c, i) taken k.among)
    where
      by_cases : IsOneInterface c i d j ⊎ Contains taken (d, j) → ((takes.track ≡ t) × IsOneInterface c i d j) ⊎ IsTakenOn taken t d j
      by_cases (inl e) = inl (one_track c i takes.track t takes.is_on (subst (λ (x : Collection × Id). IsIdentifiedOn x.0 x.1 t) (sym e) k.is_on), e)
      by_cases (inr m) = inr record { among = m; is_on = k.is_on }

  -- the shared entry on a track
  stands_now : (t : Class) (s : Id) → now t ≡ Some s → (t ≡ takes.track) ⊎ (t ≢ takes.track) → Stands after (interface_key s) × IsIdentifiedOn after s t
  stands_now t s e (inl same) =
      let f = same_entry (sym takes.is_entry ∙ ap now (sym same) ∙ e) in
      subst (λ (x : Id). Stands after (interface_key x) × IsIdentifiedOn after x t) f (takes.stands, subst (λ (x : Class). IsIdentifiedOn after takes.entry x) (sym same) takes.identified)
  stands_now t s e (inr ne) =
      let f = takes.no_more t s ne e in
      let k = takes.kept t s ne f in
      let on = kept.identified t s f in
      (k.stands, record { name = on.name; identified = k.identifier ∙ on.identified; on_track = on.on_track })

  leaves_now : (t : Class) (s : Id) → now t ≡ Some s → (t ≡ takes.track) ⊎ (t ≢ takes.track) → All (λ (x : Text × ItemKind). IsLeafItem x.1) (exports_at after (interface_key s))
  leaves_now t s e (inl same) =
      let f = same_entry (sym takes.is_entry ∙ ap now (sym same) ∙ e) in
      subst (λ (x : Id). All (λ (y : Text × ItemKind). IsLeafItem y.1) (exports_at after (interface_key x))) f takes.leaves
  leaves_now t s e (inr ne) =
      let f = takes.no_more t s ne e in
      subst (λ (l : List (Text × ItemKind)). All (λ (x : Text × ItemKind). IsLeafItem x.1) l) (sym (takes.kept t s ne f).exports) (kept.leaves t s f)

  remembered_now : (t : Class) (d : Collection) (j : Id) → IsTakenOn more t d j → (s : Id) × (now t ≡ Some s)
  remembered_now t d j k = by_cases (taken_cases t d j k)
    where
      by_cases : ((takes.track ≡ t) × IsOneInterface c i d j) ⊎ IsTakenOn taken t d j → (s : Id) × (now t ≡ Some s)
      by_cases (inl e) = (takes.entry, ap now (sym e.0) ∙ takes.is_entry)
      by_cases (inr m) = let s = kept.remembered t d j m in (s.0, takes.still t s.0 s.1)

  -- the trees on a track
  old_tree : (t : Class) (x : ItemTree) → IsTakenTree taken t x → IsTakenTree more t x
  old_tree t x k = record { types = k.types; id = k.id; is_on = old_on t k.types k.id k.is_on; is_tree = k.is_tree }

  new_tree : IsTakenTree more takes.track (item_tree c (Instance i))
  new_tree = record { types = c; id = i; is_on = new_on; is_tree = refl }

  tree_cases : (t : Class) (x : ItemTree) → IsTakenTree more t x → IsTakenTree taken t x ⊎ ((takes.track ≡ t) × (x ≡ item_tree c (Instance i)))
  tree_cases t x k = by_cases (taken_cases t k.types k.id k.is_on)
    where
      by_cases : ((takes.track ≡ t) × IsOneInterface c i k.types k.id) ⊎ IsTakenOn taken t k.types k.id → IsTakenTree taken t x ⊎ ((takes.track ≡ t) × (x ≡ item_tree c (Instance i)))
      by_cases (inl e) = inr (e.0, k.is_tree ∙ ap (λ (p : Collection × Id). item_tree p.0 (Instance p.1)) (sym e.1))
      by_cases (inr m) = inl record { types = k.types; id = k.id; is_on = m; is_tree = k.is_tree }

  here_cases : (x : ItemTree) → IsTakenTree more takes.track x → IsTakenTree taken takes.track x ⊎ (x ≡ item_tree c (Instance i))
  here_cases x k = by_cases (tree_cases takes.track x k)
    where
      by_cases : IsTakenTree taken takes.track x ⊎ ((takes.track ≡ takes.track) × (x ≡ item_tree c (Instance i))) → IsTakenTree taken takes.track x ⊎ (x ≡ item_tree c (Instance i))
      by_cases (inl a) = inl a
      by_cases (inr b) = inr b.1

  tree_here : (o : Option Id) → shared takes.track ≡ o → IsTreeMetWith (option_map (λ s. item_tree own (Instance s)) o) (item_tree c (Instance i)) (Some (item_tree after (Instance takes.entry))) → IsMeetOf (item_tree after (Instance takes.entry)) (IsTakenTree more takes.track)
  tree_here None e h = subst (λ (x : ItemTree). IsMeetOf x (IsTakenTree more takes.track)) (sym h) (meet_of_one (IsTakenTree more takes.track) (item_tree c (Instance i)) new_tree (λ x k. only x (here_cases x k)))
    where
      only : (x : ItemTree) → IsTakenTree taken takes.track x ⊎ (x ≡ item_tree c (Instance i)) → x ≡ item_tree c (Instance i)
      only x (inl k) = let s = kept.remembered takes.track k.types k.id k.is_on in let f = s.1 in absurd (cc (e, f))
      only x (inr f) = f
  tree_here (Some s) e h = meet_of_more (IsTakenTree taken takes.track) (IsTakenTree more takes.track) (item_tree c (Instance i)) (old_tree takes.track) new_tree here_cases (item_tree own (Instance s)) (item_tree after (Instance takes.entry)) (kept.trees takes.track s e) h

  trees_now : (t : Class) (s : Id) → now t ≡ Some s → (t ≡ takes.track) ⊎ (t ≢ takes.track) → IsMeetOf (item_tree after (Instance s)) (IsTakenTree more t)
  trees_now t s e (inl same) =
      let f = same_entry (sym takes.is_entry ∙ ap now (sym same) ∙ e) in
      let h = tree_here (shared takes.track) refl takes.tree in
      subst (λ (x : Id). IsMeetOf (item_tree after (Instance x)) (IsTakenTree more t)) f (subst (λ (x : Class). IsMeetOf (item_tree after (Instance takes.entry)) (IsTakenTree more x)) (sym same) h)
  trees_now t s e (inr ne) =
      let f = takes.no_more t s ne e in
      let k = takes.kept t s ne f in
      subst (λ (x : ItemTree). IsMeetOf x (IsTakenTree more t)) (sym k.tree) (meet_moves (IsTakenTree taken t) (IsTakenTree more t) (old_tree t) (λ x h. elsewhere x (tree_cases t x h)) (item_tree own (Instance s)) (kept.trees t s f))
    where
      elsewhere : (x : ItemTree) → IsTakenTree taken t x ⊎ ((takes.track ≡ t) × (x ≡ item_tree c (Instance i))) → IsTakenTree taken t x
      elsewhere x (inl k) = k
      elsewhere x (inr e) = absurd (ne (sym e.0))

  -- the uses
  use_now : (v : UseContent) (d : Collection) (u : UseContent) → IsUseOf shared v d u → IsUseOf now v d u
  use_now v d u k = record { track = k.track; is_on = k.is_on; is_shared = takes.still k.track v.interface k.is_shared; same_name = k.same_name }

  old_has : (t : Class) (s r : Id) (n : Text) (d : Collection) (u : UseContent) → shared t ≡ Some s → now t ≡ Some r → (t ≡ takes.track) ⊎ (t ≢ takes.track) → HasSharedUse own shared s n d u → HasSharedUse after now r n d u
  old_has t s r n d u e f (inl same) h =
      let g = same_entry (sym takes.is_entry ∙ ap now (sym same) ∙ f) in
      record {
        content = h.content;
        has = subst (λ (x : Id). lookup bytes_eq (uses_at after (interface_key x)) n ≡ Some h.content) g (takes.old_uses n h.content record { entry = s; stood = ap shared (sym same) ∙ e; has = h.has });
        is_use = use_now h.content d u h.is_use;
      }
  old_has t s r n d u e f (inr ne) h =
      let g = same_entry (sym e ∙ takes.no_more t r ne f) in
      let k = takes.kept t s ne e in
      record {
        content = h.content;
        has = subst (λ (x : Id). lookup bytes_eq (uses_at after (interface_key x)) n ≡ Some h.content) g (ap (λ us. lookup bytes_eq us n) k.uses ∙ h.has);
        is_use = use_now h.content d u h.is_use;
      }

  uses_now : (t : Class) (s : Id) (d : Collection) (j : Id) (n : Text) (u : UseContent) → now t ≡ Some s → IsTakenOn more t d j → HasUse d (interface_key j) n u → HasSharedUse after now s n d u
  uses_now t s d j n u e k h = by_cases (taken_cases t d j k)
    where
      by_cases : ((takes.track ≡ t) × IsOneInterface c i d j) ⊎ IsTakenOn taken t d j → HasSharedUse after now s n d u
      by_cases (inl f) =
          let g = same_entry (sym takes.is_entry ∙ ap now f.0 ∙ e) in
          let h' = subst (λ (p : Collection × Id). HasUse p.0 (interface_key p.1) n u) (sym f.1) h in
          subst (λ (x : Id). HasSharedUse after now x n d u) g (subst (λ (x : Collection). HasSharedUse after now takes.entry n x u) (ap (λ (p : Collection × Id). p.0) f.1) (takes.new_uses n u h'))
      by_cases (inr m) = let r = kept.remembered t d j m in old_has t r.0 s n d u r.1 e (same_track t takes.track) (kept.uses t r.0 d j n u r.1 m h)

  taken_use : (t : Class) (n : Text) (v : UseContent) → IsTakenUse taken shared t n v → IsTakenUse more now t n v
  taken_use t n v k = record { types = k.types; id = k.id; content = k.content; is_on = old_on t k.types k.id k.is_on; has = k.has; is_use = use_now v k.types k.content k.is_use }

  no_others_now : (t : Class) (s : Id) (n : Text) (v : UseContent) → now t ≡ Some s → (t ≡ takes.track) ⊎ (t ≢ takes.track) → lookup bytes_eq (uses_at after (interface_key s)) n ≡ Some v → IsTakenUse more now t n v
  no_others_now t s n v e (inl same) l =
      let g = same_entry (sym takes.is_entry ∙ ap now (sym same) ∙ e) in
      by_cases (takes.only_uses n v (subst (λ (x : Id). lookup bytes_eq (uses_at after (interface_key x)) n ≡ Some v) (sym g) l))
    where
      by_cases : IsOldUse own shared takes.track n v ⊎ IsNewUse now c i n v → IsTakenUse more now t n v
      by_cases (inl o) = subst (λ (x : Class). IsTakenUse more now x n v) (sym same) (taken_use takes.track n v (kept.no_others takes.track o.entry n v o.stood o.has))
      by_cases (inr w) = subst (λ (x : Class). IsTakenUse more now x n v) (sym same) record { types = c; id = i; content = w.content; is_on = new_on; has = w.has; is_use = w.is_use }
  no_others_now t s n v e (inr ne) l =
      let f = takes.no_more t s ne e in
      let k = takes.kept t s ne f in
      taken_use t n v (kept.no_others t s n v f (ap (λ us. lookup bytes_eq us n) (sym k.uses) ∙ l))

  still_shared : AreShared more after now
  still_shared = record {
    sound = takes.sound;
    stands = λ t s e. (stands_now t s e (same_track t takes.track)).0;
    identified = λ t s e. (stands_now t s e (same_track t takes.track)).1;
    leaves = λ t s e. leaves_now t s e (same_track t takes.track);
    remembered = remembered_now;
    trees = λ t s e. trees_now t s e (same_track t takes.track);
    uses = uses_now;
    no_others = λ t s n v e l. no_others_now t s n v e (same_track t takes.track) l;
  }

pub sharing_goes_on : SharingGoesOn
sharing_goes_on = record { start = start; added = added; more = still_shared }
