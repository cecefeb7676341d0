-- What was built of two sourced items is sourced.
use Rattle.std.specs.Option.{option_map_or}
use Rattle.std.specs.Str.{bytes_eq}
use Rattle.std.proofs.Common.{◌≡◌, inl, inr, List, [], Some, sym, ap, subst, Contains}
use Rattle.std.proofs.lemmas.List.Elements.{All-contains}
use Rattle.wac_model.specs.Text.{Text, lookup}
use Rattle.wac_model.specs.ItemTree.{Kind, ItemTree}
use Rattle.wac_model.specs.Order.{Fits}
use Rattle.wac_bounds.specs.MeetIn.{IsMeetIn}
use Rattle.wac_core_merge.proofs.NameLemmas.{Contains-with_new}
use Rattle.wac_component.specs.Collection.{Collection, UseContent}
use Rattle.wac_component.specs.Key.{Key, Entry, entry_at, interface_key, item_keys, Each, Stands, AllStand}
use Rattle.wac_component.specs.Sound.{IsSound}
use Rattle.wac_component.specs.Tree.{item_tree}
use Rattle.wac_component.specs.Entries.{entry_exports, entry_uses, exports_at, HasUse}
use Rattle.wac_component.specs.Open.{stay}
use Rattle.wac_component.specs.declared.items.ItemKind.{ItemKind}
use Rattle.wac_component.proofs.Among.{among_each, each_among}
use Rattle.wac_aggregator_promises.proofs.Read.{lookup_contains}
use Rattle.wac_merge.specs.Built.{Origins, OnlyBuilds, IsBuilt, first, second, fresh, IsBuiltAt, of_first, of_second, of_both, IsAddedBuilt, IsEntryFrom, of_interfaces, of_worlds, of_modules, AreBuilt, uses_of_both}
use Rattle.wac_merge.specs.Items.{ExternKinds, entry_item}
use Rattle.wac_aggregator_narrowing.proofs.Adding.{identifier_kept}
use Rattle.wac_aggregator_narrowing.proofs.Building.{IsBuiltFrom, stood, made, from_built, from_opens}
use Rattle.wac_aggregator_reasons.specs.Sourced.{IsExportFrom, IsUseFrom, IsSourced}
use Rattle.wac_aggregator_reasons.proofs.Bare.{met_apart, joined_apart}
use Rattle.wac_aggregator_reasons.proofs.Clashing.{sourced_next}
use Rattle.wac_aggregator_reasons.proofs.Moving.{use_moves, old_export, old_use, export_stands, use_stands}

module _ (P : Collection → Key → Type 0) where
  -- meets and joins of what comes from sources
  met_export : (n : Text) (a b m : ItemTree) → IsMeetIn Fits a b (Some m) → IsExportFrom P n a → IsExportFrom P n b → IsExportFrom P n m
  met_export n a b m is ha hb other u = elim (met_apart a b m other is u) [ inl v ↦ ha other v | inr v ↦ hb other v ]

  joined_export : (n : Text) (a m : ItemTree) → Fits a m → IsExportFrom P n a → IsExportFrom P n m
  joined_export n a m f ha other u = ha other (joined_apart a m other f u)

  module _ (c d : Collection) (o : Origins) (s : IsSound c) (only : OnlyBuilds c d o) where
    -- of an entry that stood
    abbrev Exports : ExternKinds → Type 0
    Exports es = (n : Text) (x : ItemKind) → lookup bytes_eq es n ≡ Some x → IsExportFrom P n (item_tree c x) × AllStand c (item_keys x)

    same_tree : (n : Text) (x : ItemKind) → IsExportFrom P n (item_tree c x) × AllStand c (item_keys x) → IsExportFrom P n (item_tree d x)
    same_tree n x h = subst (λ t. IsExportFrom P n t) (sym (only.extends.trees x h.1)) h.0

    bound_export : (n : Text) (k : Kind) (m : Key) → IsAddedBuilt c d o m → IsExportFrom P n (item_tree c (entry_item k (o m).0)) → IsExportFrom P n (item_tree c (entry_item k (o m).1)) → IsExportFrom P n (item_tree d (entry_item k m))
    bound_export n k m b ha hb = elim b.bound [
      | inl met ↦ met_export n (item_tree c (entry_item k (o m).0)) (item_tree c (entry_item k (o m).1)) (item_tree d (entry_item k m)) (met k) ha hb
      | inr joined ↦ joined_export n (item_tree c (entry_item k (o m).0)) (item_tree d (entry_item k m)) (joined k).0 ha
    ]

    pub built_export : (n : Text) (a b y : ItemKind) → IsBuilt c d o a b y → IsExportFrom P n (item_tree c a) × AllStand c (item_keys a) → IsExportFrom P n (item_tree c b) × AllStand c (item_keys b) → IsExportFrom P n (item_tree d y)
    built_export n a b y (first is) ha hb = subst (λ x. IsExportFrom P n (item_tree d x)) (sym is) (same_tree n a ha)
    built_export n a b y (second is) ha hb = subst (λ x. IsExportFrom P n (item_tree d x)) (sym is) (same_tree n b hb)
    built_export n a b y (fresh k m is stands new a_is b_is _) ha hb = elim (only.added m stands) [
      | inl old ↦ absurd (new old)
      | inr added ↦ subst (λ x. IsExportFrom P n (item_tree d x)) (sym is)
          (bound_export n k m added (subst (λ x. IsExportFrom P n (item_tree c x)) a_is ha.0) (subst (λ x. IsExportFrom P n (item_tree c x)) b_is hb.0))
    ]

    export_built_at : (es ts : ExternKinds) (n : Text) (y : ItemKind) → IsBuiltAt c d o es ts n y → Exports es → Exports ts → IsExportFrom P n (item_tree d y)
    export_built_at es ts n y (of_first is) ha hb = same_tree n y (ha n y is)
    export_built_at es ts n y (of_second is) ha hb = same_tree n y (hb n y is)
    export_built_at es ts n y (of_both {a = a} {b = b} a_is b_is h) ha hb = built_export n a b y h (ha n a a_is) (hb n b b_is)

    exports_built : (es ts ms : ExternKinds) (n : Text) (y : ItemKind) → AreBuilt c d o es ts ms → Exports es → Exports ts → lookup bytes_eq ms n ≡ Some y → IsExportFrom P n (item_tree d y)
    exports_built es ts ms n y h ha hb is = export_built_at es ts n y (All-contains (λ (e : Text × ItemKind). IsBuiltAt c d o es ts e.0 e.1) ms (n, y) h (lookup_contains ms n y is)) ha hb

    abbrev AreUsesFrom : List (Text × UseContent) → Type 0
    AreUsesFrom us = (n : Text) (u : UseContent) → Contains us (n, u) → IsUseFrom P d n u

    uses_built : (us vs ws : List (Text × UseContent)) (n : Text) (u : UseContent) → ws ≡ uses_of_both us vs → AreUsesFrom us → AreUsesFrom vs → Contains ws (n, u) → IsUseFrom P d n u
    uses_built us vs ws n u is ha hb m = elim (Contains-with_new bytes_eq us vs (n, u) (subst (λ xs. Contains xs (n, u)) is m)) [ inl v ↦ ha n u v | inr v ↦ hb n u v ]

    entry_exports_built : (a b e : Entry) (n : Text) (y : ItemKind) → IsEntryFrom c d o a b e → Exports (entry_exports a) → Exports (entry_exports b) → lookup bytes_eq (entry_exports e) n ≡ Some y → IsExportFrom P n (item_tree d y)
    entry_exports_built _ _ _ n y (of_interfaces {a = a} {b = b} {e = e} h) ha hb is = exports_built a.exports b.exports e.exports n y h.exports ha hb is
    entry_exports_built _ _ _ n y (of_worlds {a = a} {b = b} {e = e} h) ha hb is = exports_built a.exports b.exports e.exports n y h.exports ha hb is
    entry_exports_built _ _ _ n y (of_modules h) ha hb is = absurd (cc)

    entry_uses_built : (a b e : Entry) (n : Text) (u : UseContent) → IsEntryFrom c d o a b e → AreUsesFrom (entry_uses a) → AreUsesFrom (entry_uses b) → Contains (entry_uses e) (n, u) → IsUseFrom P d n u
    entry_uses_built _ _ _ n u (of_interfaces {a = a} {b = b} {e = e} h) ha hb m = uses_built a.uses b.uses e.uses n u h.uses ha hb m
    entry_uses_built _ _ _ n u (of_worlds {a = a} {b = b} {e = e} h) ha hb m = uses_built a.uses b.uses e.uses n u h.uses ha hb m
    entry_uses_built _ _ _ n u (of_modules {a = a} h) ha hb m = ha n u m

    -- at an entry that stood
    origin_exports : (t : Key) (e : Entry) → entry_at c t ≡ Some e → Stands c t → IsSourced P c t → Exports (entry_exports e)
    origin_exports t e is st h n x f =
        let at : lookup bytes_eq (exports_at c t) n ≡ Some x = subst (λ es. lookup bytes_eq es n ≡ Some x) (sym (ap (λ z. option_map_or entry_exports z []) is)) f in
        (h.exports t n x stay at, export_stands P c s t n x st at)

    origin_uses : (t : Key) (e : Entry) → entry_at c t ≡ Some e → Stands c t → IsSourced P c t → AreUsesFrom (entry_uses e)
    origin_uses t e is st h n u m =
        let at : HasUse c t n u = subst (λ us. Contains us (n, u)) (sym (ap (λ z. option_map_or entry_uses z []) is)) m in
        use_moves P c d n u (identifier_kept c d s only.extends (interface_key u.interface) (use_stands P c s t n u st at)) (h.uses t n u stay at)

    exports_at_end : (t : Key) (n : Text) (x : ItemKind) → IsBuiltFrom c d o s only (IsSourced P c) t → lookup bytes_eq (exports_at d t) n ≡ Some x → IsExportFrom P n (item_tree d x)
    exports_at_end t n x (stood st h) is = old_export P c d s only.extends t n x st is (λ z. h.exports t n z stay)
    exports_at_end t n x (made st new left right) is = elim (only.added t st) [
      | inl old ↦ absurd (new old)
      | inr b ↦ entry_exports_built b.first b.second b.self n x b.is_from (origin_exports (o t).0 b.first b.first_at b.first_stands left) (origin_exports (o t).1 b.second b.second_at b.second_stands right)
          (subst (λ es. lookup bytes_eq es n ≡ Some x) (ap (λ z. option_map_or entry_exports z []) b.self_at) is)
    ]

    uses_at_end : (t : Key) (n : Text) (u : UseContent) → IsBuiltFrom c d o s only (IsSourced P c) t → HasUse d t n u → IsUseFrom P d n u
    uses_at_end t n u (stood st h) has = old_use P c d s only.extends t n u st has (λ z. h.uses t n z stay)
    uses_at_end t n u (made st new left right) has = elim (only.added t st) [
      | inl old ↦ absurd (new old)
      | inr b ↦ entry_uses_built b.first b.second b.self n u b.is_from (origin_uses (o t).0 b.first b.first_at b.first_stands left) (origin_uses (o t).1 b.second b.second_at b.second_stands right)
          (subst (λ us. Contains us (n, u)) (ap (λ z. option_map_or entry_uses z []) b.self_at) has)
    ]

    pub built_sourced : (a b y : ItemKind) → IsBuilt c d o a b y → AllStand c (item_keys a) → AllStand c (item_keys b) → Each (IsSourced P c) (item_keys a) → Each (IsSourced P c) (item_keys b) → Each (IsSourced P d) (item_keys y)
    built_sourced a b y h sa sb ha hb = each_among (IsSourced P d) (item_keys y) (λ k m.
        let f = among_each (IsBuiltFrom c d o s only (IsSourced P c)) k (item_keys y) m (from_built c d o s only (IsSourced P c) a b y h (sa, ha) (sb, hb)) in
        record {
          exports = λ t n x w is. exports_at_end t n x (from_opens c d o s only (IsSourced P c) (sourced_next P c) k t f w) is;
          uses = λ t n u w has. uses_at_end t n u (from_opens c d o s only (IsSourced P c) (sourced_next P c) k t f w) has;
        })
