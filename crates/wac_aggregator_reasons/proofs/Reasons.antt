-- What stands at a refusal gives its reason.
use Rattle.std.specs.declared.alloc.AllocError.{AllocError}
use Rattle.std.proofs.Common.{◌≡◌, ◌≢◌, inl, inr, List, [], ◌∷◌, Option, Some, None, Result, refl, sym, ap, subst, ◌∙◌}
use Rattle.wac_model.specs.Text.{Text}
use Rattle.wac_model.specs.ItemTree.{ItemTree, Kind, item, type_item, Leaf, Shape, interface, world, Items, leaf, composite}
use Rattle.wac_model.specs.Order.{Fits, leaves, composites}
use Rattle.wac_component.specs.Id.{Id}
use Rattle.wac_component.specs.Collection.{Collection, UseContent}
use Rattle.wac_component.specs.Growth.{Extends}
use Rattle.wac_component.specs.Implicit.{identifier}
use Rattle.wac_component.specs.Key.{Key, interface_key, world_key, item_keys, Each, Stands, AllStand}
use Rattle.wac_component.specs.Reach.{IsAmong, here}
use Rattle.wac_component.specs.Replacing.{NamesReach}
use Rattle.wac_component.specs.Sound.{IsSound}
use Rattle.wac_component.specs.Tree.{item_tree}
use Rattle.wac_component.specs.Entries.{exports_at, uses_at, identifier_at}
use Rattle.wac_component.specs.Open.{OpenReaches, open_next, stay, step}
use Rattle.wac_component.specs.declared.items.ItemKind.{ItemKind}
use Rattle.wac_component.specs.declared.items.ItemKind.TheVariants.{«Type» as OfType, Func, Instance, Component, Module, Value}
use Rattle.wac_component.specs.declared.items.Type.TheVariants.{Resource as TypeResource, Func as TypeFunc, Value as TypeValue, Interface as TypeInterface, World as TypeWorld, Module as TypeModule}
use Rattle.wac_component.proofs.Among.{among_each, each_among}
use Rattle.wac_names.specs.Class.{Class, class_of}
use Rattle.wac_aggregator_promises.specs.Attempt.{Attempt, IsSource, Touches}
use Rattle.wac_aggregator_promises.specs.Reason.{IsReason, mismatch, used_interface, used_name, cycle, IsImportedOrTouches}
use Rattle.wac_aggregator_promises.specs.TreeSets.{HaveNoLowerBound}
use Rattle.wac_aggregator_promises.proofs.Read.{use_opens}
use Rattle.wac_merge.specs.Built.{Builds, IsBuilt}
use Rattle.wac_merge.specs.Items.{entry_item}
use Rattle.wac_aggregator_narrowing.specs.Narrows.{Narrows, KeepsStops}
use Rattle.wac_aggregator_narrowing.specs.State.{State, IsStateKept}
use Rattle.wac_aggregator_narrowing.specs.Taking.{SameTree, IsTakenKey, AreTakenKeys, one_key, no_keys, IsTakenItem}
use Rattle.wac_aggregator_narrowing.specs.Traced.{IsAmongRoots, Arrows, LeadsAlongArrows}
use Rattle.wac_aggregator_narrowing.proofs.Adding.{Narrows-all_stand}
use Rattle.wac_aggregator_narrowing.proofs.Tracing.{cycle_reason, taken_along}
use Rattle.wac_aggregator_reasons.specs.Sourced.{IsSourced}
use Rattle.wac_aggregator_reasons.specs.Split.{IsOpenKey}
use Rattle.wac_aggregator_reasons.specs.Standing.{IsUntouched}
use Rattle.wac_aggregator_reasons.specs.Trial.{IsTrial, OnlyGrew, IsAccounted, IsOpenSource, IsOpenItem, AreOpenItems, IsOpenUse, AreOpenUses}
use Rattle.wac_aggregator_reasons.proofs.Cycles.{cycle_closes}
use Rattle.wac_aggregator_reasons.proofs.Exported.{export_each}
use Rattle.wac_aggregator_reasons.proofs.Merged.{merges}
use Rattle.wac_aggregator_reasons.proofs.Moving.{identifier_is, export_bare, use_moves}
use Rattle.wac_aggregator_reasons.proofs.Narrowed.{narrowed_bare}
use Rattle.wac_aggregator_reasons.proofs.Refused.{merged_mismatch, named_clash, interfaces_clash, names_clash}
use Rattle.wac_aggregator_reasons.proofs.SourcedItems.{old_items, old_uses, built_item}
use Rattle.wac_aggregator_reasons.proofs.Splitting as splitting
use Rattle.wac_aggregator_reasons.proofs.TakenParts.{module_quiet}
use Rattle.wac_aggregator_reasons.proofs.Touching.{touches_new}

-- what fits where a leaf is asked for is that leaf
leaf_same : {a : ItemTree} {k : Kind} {l : Leaf} → Fits a (leaf k l) → a ≡ leaf k l
leaf_same leaves = refl

-- an item with the tree of an interface or a world names an entry
abbrev IsComposite : Kind → Shape → ItemTree → Type 0
IsComposite k s (composite l r i e) = (l ≡ k) × (r ≡ s)
IsComposite k s t = ⊥

composite_fits : {a : ItemTree} {k : Kind} {s : Shape} {i e : Items} → Fits a (composite k s i e) → IsComposite k s a
composite_fits (composites p q) = (refl, refl)

record IsEntryItem (k : Kind) (x : ItemKind) : Type 0 where
  pub key : Key
  pub is : x ≡ entry_item k key
  pub keys : item_keys x ≡ key ∷ []

entry_of : (c : Collection) (k : Kind) (s : Shape) (x : ItemKind) → IsComposite k s (item_tree c x) → IsEntryItem k x
entry_of c k s (Instance p) h = record { key = interface_key p; is = ap (λ l. entry_item l (interface_key p)) h.0; keys = refl }
entry_of c k s (Component p) h = record { key = world_key p; is = ap (λ l. entry_item l (world_key p)) h.0; keys = refl }
entry_of c k s (OfType (TypeInterface p)) h = record { key = interface_key p; is = ap (λ l. entry_item l (interface_key p)) h.0; keys = refl }
entry_of c k s (OfType (TypeWorld p)) h = record { key = world_key p; is = ap (λ l. entry_item l (world_key p)) h.0; keys = refl }
entry_of c k s (OfType (TypeResource p)) h = absurd h
entry_of c k s (OfType (TypeFunc p)) h = absurd h
entry_of c k s (OfType (TypeValue p)) h = absurd h
entry_of c k s (OfType (TypeModule p)) h = absurd h
entry_of c k s (Func p) h = absurd h
entry_of c k s (Module p) h = absurd h
entry_of c k s (Value p) h = absurd h

-- an item has the tree of the one that it was taken in for, where its entry does
module _ (f : Collection) (s : State) where
  first_taken : (i j : Key) (js : List Key) → AreTakenKeys class_of f s (i ∷ []) js → js ≡ j ∷ [] → s.taken i ≡ Some j
  first_taken i j _ (one_key {j = l} h no_keys) e = let same : l ≡ j = cc in h.noted ∙ ap (λ o. Some o) same

  entry_same : (k : Kind) (w : Shape) (i e : Items) (theirs : Key) (y : ItemKind) → Fits (item_tree s.own y) (composite k w i e) → AreTakenKeys class_of f s (theirs ∷ []) (item_keys y)
      → ((own : Key) → s.taken theirs ≡ Some own → SameTree f s.own theirs own) → item_tree s.own y ≡ item_tree f (entry_item k theirs)
  entry_same k w i e theirs y fits taken same =
      let o = entry_of s.own k w y (composite_fits fits) in
      ap (item_tree s.own) o.is ∙ same o.key (first_taken theirs o.key (item_keys y) taken o.keys) k

  item_same : (x y : ItemKind) → IsTakenItem class_of f s x y → ((theirs own : Key) → IsAmong theirs (item_keys x) → s.taken theirs ≡ Some own → SameTree f s.own theirs own) → item_tree s.own y ≡ item_tree f x
  item_same (Instance p) y h same = entry_same item interface _ _ (interface_key p) y h.fits h.keys (λ o is. same (interface_key p) o here is)
  item_same (Component p) y h same = entry_same item world _ _ (world_key p) y h.fits h.keys (λ o is. same (world_key p) o here is)
  item_same (OfType (TypeInterface p)) y h same = entry_same type_item interface _ _ (interface_key p) y h.fits h.keys (λ o is. same (interface_key p) o here is)
  item_same (OfType (TypeWorld p)) y h same = entry_same type_item world _ _ (world_key p) y h.fits h.keys (λ o is. same (world_key p) o here is)
  item_same (OfType (TypeResource p)) y h same = leaf_same h.fits
  item_same (OfType (TypeFunc p)) y h same = leaf_same h.fits
  item_same (OfType (TypeValue p)) y h same = leaf_same h.fits
  item_same (OfType (TypeModule m)) y h same = h.quiet (module_quiet f m, tt)
  item_same (Func p) y h same = leaf_same h.fits
  item_same (Module m) y h same = h.quiet (module_quiet f m, tt)
  item_same (Value p) y h same = leaf_same h.fits

module _ (a : Attempt) where
  -- the exports and the uses of an entry that is open and comes from sources
  pub entry_items : (s : State) → IsStateKept s → (k : Key) → Stands s.own k → IsOpenSource a s k → AreOpenItems a s (exports_at s.own k) × AreOpenUses a s (uses_at s.own k)
  entry_items s kept k st h = (
    λ n x is. record { item = old_items (IsSource a.sources) s.own kept.good.sound k st h.sourced n x is; opens = export_each (IsOpenKey s) s.own k n x is (λ j m t w. h.opens t (step m w)) },
    λ n u has. record { use_sourced = old_uses (IsSource a.sources) s.own kept.good.sound k st h.sourced n u has; opens = λ t w. h.opens t (step (use_opens s.own k n u has) w) },
  )

  -- an item stays such, where what is open and comes from sources does
  pub item_stays : (s t : State) → IsStateKept s → Narrows s.own s.shared t.own t.shared → ((k : Key) → Stands s.own k → IsOpenSource a s k → IsOpenSource a t k) → (n : Text) (x : ItemKind) → IsOpenItem a s n x → IsOpenItem a t n x
  item_stays s t kept narrows keys n x i =
      let each : (k : Key) → IsAmong k (item_keys x) → IsOpenSource a t k =
      λ k m. keys k (among_each (Stands s.own) k (item_keys x) m i.item.stands) (record { sourced = among_each (IsSourced (IsSource a.sources) s.own) k (item_keys x) m i.item.keys; opens = among_each (IsOpenKey s) k (item_keys x) m i.opens }) in
      record {
        item = record {
          stands = Narrows-all_stand s.own t.own s.shared t.shared narrows (item_keys x) i.item.stands;
          export = export_bare (IsSource a.sources) n (item_tree s.own x) (item_tree t.own x) (narrowed_bare s.own t.own s.shared t.shared kept.good narrows x i.item.stands) i.item.export;
          keys = each_among (IsSourced (IsSource a.sources) t.own) (item_keys x) (λ k m. (each k m).sourced);
        };
        opens = each_among (IsOpenKey t) (item_keys x) (λ k m. (each k m).opens);
      }

  -- so do items, and uses
  pub items_stay : (s t : State) → IsStateKept s → Narrows s.own s.shared t.own t.shared → ((k : Key) → Stands s.own k → IsOpenSource a s k → IsOpenSource a t k)
      → (es : List (Text × ItemKind)) → AreOpenItems a s es → AreOpenItems a t es
  items_stay s t kept narrows keys es h n x is = item_stays s t kept narrows keys n x (h n x is)

  pub uses_stay : (s t : State) → Narrows s.own s.shared t.own t.shared → KeepsStops s.own s.shared t.own t.shared → ((k : Key) → Stands s.own k → IsOpenSource a s k → IsOpenSource a t k)
      → (us : List (Text × UseContent)) → AreOpenUses a s us → AreOpenUses a t us
  uses_stay s t narrows stops keys us h n u m =
      let i = h n u m in
      let k = interface_key u.interface in
      let now = keys k i.use_sourced.stands (record { sourced = i.use_sourced.key; opens = i.opens }) in
      record {
        use_sourced = record {
          stands = narrows.standing k i.use_sourced.stands;
          use_from = use_moves (IsSource a.sources) s.own t.own n u (stops.identifiers k i.use_sourced.stands) i.use_sourced.use_from;
          key = now.sourced;
        };
        opens = now.opens;
      }

  -- what is met or joined is such where the two are
  pub built_open : (s : State) (d : Collection) (name : Text) (x y m : ItemKind) (r : Result (Option ItemKind) AllocError) → IsStateKept s → (h : Builds s.own d x y r) → IsBuilt s.own d h.origins x y m → IsSound d → AllStand d (item_keys m)
      → IsOpenItem a s name x → IsOpenItem a s name y → IsOpenItem a (record s { own = d }) name m
  built_open s d name x y m r kept h built sound st hx hy = record {
    item = built_item (IsSource a.sources) s.own d name x y m r kept.good.sound sound h built st hx.item hy.item;
    opens = splitting.built_open s (record s { own = d }) h.origins kept h.only refl x y m built hx.item.stands hy.item.stands hx.opens hy.opens;
  }

  -- exports of one name that can't be met
  pub items_clash : (s : State) (name : Text) (x y : ItemKind) → IsStateKept s → Touches a → IsOpenItem a s name x → IsOpenItem a s name y → HaveNoLowerBound (item_tree s.own x) (item_tree s.own y) → IsReason a mismatch
  items_clash s name x y kept touches hx hy apart = inr (touches, named_clash (IsSource a.sources) s.own kept.good.sound name x y hx.item.stands hy.item.stands hx.item.keys hy.item.keys hx.item.export hy.item.export apart)

  -- uses of one name on two tracks, or with unequal `name`
  pub interfaces_differ : (s : State) (used expected found : Text) (u v : UseContent) → IsImportedOrTouches a → IsOpenUse a s used u → IsOpenUse a s used v → identifier s.own u.interface ≡ Some expected → identifier s.own v.interface ≡ Some found → class_of expected ≢ class_of found
      → IsReason a (used_interface used expected found)
  interfaces_differ s used expected found u v meets hu hv eu ev apart = (
    meets,
    interfaces_clash (IsSource a.sources) s.own used u v expected found hu.use_sourced.use_from hv.use_sourced.use_from (record { name = expected; identified = eu; on_track = refl }) (record { name = found; identified = ev; on_track = refl }) apart,
  )

  pub names_differ : (s : State) (used : Text) (u v : UseContent) → IsImportedOrTouches a → IsOpenUse a s used u → IsOpenUse a s used v → u.name ≢ v.name → IsReason a (used_name used)
  names_differ s used u v meets hu hv apart = (meets, names_clash (IsSource a.sources) s.own used u v hu.use_sourced.use_from hv.use_sourced.use_from apart)

  -- the interface that is taken in
  reached_named : (f : Collection) (i : Id) (name : Text) → IsTrial a f (interface_key i ∷ []) → identifier_at f (interface_key i) ≡ Some name → identifier a.call.types i ≡ Some name
  reached_named f i name trial is = sym (identifier_is a.call.types i) ∙ ap (λ (c : Collection). identifier_at c (interface_key i)) trial.types ∙ is

  -- where what would be put into a shared entry leads to it
  pub leads_back : (s : State) (f : Collection) (i : Id) (e : Id) (name m : Text) (ks : List Key) → IsStateKept s → (h : IsAccounted a s) → IsTrial a f (interface_key i ∷ []) → identifier_at f (interface_key i) ≡ Some name
      → IsAmong (interface_key e) s.shared → identifier_at s.own (interface_key e) ≡ Some m → class_of m ≡ class_of name
      → AllStand s.own ks → Each (LeadsAlongArrows s.own s.shared h.roots (class_of m)) ks → NamesReach s.own ks (interface_key e) → IsReason a (cycle name)
  leads_back s f i e name m ks kept h trial is among at same st along reached =
      cycle_closes a h.roots i name h.are_sources (trial.reached (interface_key i) here) (reached_named f i name trial is)
      (subst (λ (t : Class). Arrows class_of h.roots t t) same
      (cycle_reason class_of (Arrows class_of h.roots) s.own s.shared (interface_key e) m ks kept.good (among, at) st (λ j n. among_each (LeadsAlongArrows s.own s.shared h.roots (class_of m)) j ks n along) reached))

  -- where a shared entry stands on the track of an interface that wasn't taken in
  pub new_touches : (s : State) (f : Collection) (i e : Id) (name m : Text) → IsAccounted a s → IsTrial a f (interface_key i ∷ []) → identifier_at f (interface_key i) ≡ Some name → s.taken (interface_key i) ≡ None
      → IsAmong (interface_key e) s.shared → identifier_at s.own (interface_key e) ≡ Some m → class_of m ≡ class_of name → Touches a
  new_touches s f i e name m h trial is new among at same =
      touches_new a s i name m (trial.reached (interface_key i) here) (reached_named f i name trial is) same (λ q. trial.apart (q ∙ trial.types)) new (h.sourced.sharers (interface_key e) m among at)

  -- what was taken in for its parts leads along from its track
  pub parts_lead : (s : State) (f : Collection) (i : Id) (name : Text) (theirs own : Key) → IsStateKept s → (h : IsAccounted a s) → IsTrial a f (interface_key i ∷ []) → identifier_at f (interface_key i) ≡ Some name
      → IsAmong theirs (open_next f (interface_key i)) → IsTakenKey class_of f s theirs own → LeadsAlongArrows s.own s.shared h.roots (class_of name) own
  parts_lead s f i name theirs own kept h trial is among taken =
      let r = trial.reached (interface_key i) here in
      taken_along class_of h.roots s.own s.shared f r.0 (interface_key i) theirs own name (subst (λ (c : Collection). IsAmongRoots c r.0 h.roots) trial.types (h.of_item r.0 r.1)) (subst (λ (c : Collection). OpenReaches c r.0 (interface_key i)) trial.types r.2)
      is among kept.good taken.remembered taken.covered h.arrowed

  -- the import that stood and the item, where they can't be met
  pub merges_clash : (s t : State) (x y : ItemKind) → IsStateKept s → IsStateKept t → Narrows s.own s.shared t.own t.shared → AllStand s.own (item_keys x) → a.import ≡ Some (item_tree s.own x) → a.sources.start ≡ s.own → IsAccounted a t
      → IsTakenItem class_of a.call.types t a.call.kind y → Each (IsOpenSource a t) (item_keys x) → Each (IsOpenSource a t) (item_keys y) → HaveNoLowerBound (item_tree t.own x) (item_tree t.own y) → IsReason a mismatch
  merges_clash s t x y kept_s kept_t narrows st stood start h taken hx hy apart =
      merged_mismatch a t.own x y kept_t.good.sound (Narrows-all_stand s.own t.own s.shared t.shared narrows (item_keys x) st) taken.stands (sourced (item_keys x) hx) (sourced (item_keys y) hy)
      (merges a s t x y kept_s narrows st stood taken (elim h.told [ inl touches ↦ inl touches | inr u ↦ inr (untouched u) ])) apart
    where
      sourced : (ks : List Key) → Each (IsOpenSource a t) ks → Each (IsSourced (IsSource a.sources) t.own) ks
      sourced ks each = each_among (IsSourced (IsSource a.sources) t.own) ks (λ k m. (among_each (IsOpenSource a t) k ks m each).sourced)

      untouched : OnlyGrew a t → IsUntouched a.call.types s t a.call.kind y
      untouched u = record {
        extends = subst (λ (c : Collection). Extends c t.own) start u.grows;
        same = item_same a.call.types t a.call.kind y taken (λ theirs own m is. u.same theirs own (theirs, m, stay) is);
      }
