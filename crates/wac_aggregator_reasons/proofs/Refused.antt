-- The reasons of refusals for exports and uses.
use Rattle.std.proofs.Common.{◌≡◌, ◌≢◌, ◌⊎◌, inl, inr, Some, sym, ap, subst, ◌∙◌}
use Rattle.wac_model.specs.Text.{Text}
use Rattle.wac_component.specs.Id.{Id}
use Rattle.wac_component.specs.Collection.{Collection, UseContent}
use Rattle.wac_component.specs.Key.{Key, item_keys, Each, AllStand}
use Rattle.wac_component.specs.Sound.{IsSound}
use Rattle.wac_component.specs.Tree.{item_tree}
use Rattle.wac_component.specs.declared.items.ItemKind.{ItemKind}
use Rattle.wac_names.specs.Class.{Class, class_of}
use Rattle.wac_aggregator_promises.specs.Attempt.{Attempt, IsSource, Touches}
use Rattle.wac_aggregator_promises.specs.Call.{call_tree}
use Rattle.wac_aggregator_promises.specs.Clash.{ExportsClash, TwoUses, InterfacesClash, NamesClash}
use Rattle.wac_aggregator_promises.specs.Entries.{IsIdentifiedOn}
use Rattle.wac_aggregator_promises.specs.Reason.{IsReason, mismatch}
use Rattle.wac_aggregator_promises.specs.TreeSets.{HaveNoLowerBound}
use Rattle.wac_aggregator_reasons.specs.Sourced.{IsExportFrom, IsUseFrom, IsSourced}
use Rattle.wac_aggregator_reasons.specs.Standing.{AreMerged}
use Rattle.wac_aggregator_reasons.proofs.Bare.{apart_no_bound}
use Rattle.wac_aggregator_reasons.proofs.Clashing.{sources_clash, exports_clash}

module _ (P : Collection → Key → Type 0) (c : Collection) where
  -- two exports of one name, which come from sources
  pub named_clash : IsSound c → (n : Text) (x y : ItemKind) → AllStand c (item_keys x) → AllStand c (item_keys y) → Each (IsSourced P c) (item_keys x) → Each (IsSourced P c) (item_keys y)
      → IsExportFrom P n (item_tree c x) → IsExportFrom P n (item_tree c y) → HaveNoLowerBound (item_tree c x) (item_tree c y) → ExportsClash P
  named_clash s n x y sx sy hx hy ex ey h = elim (sources_clash P c s x y sx sy hx hy h) [
    | inl far ↦ exports_clash P n (item_tree c x) (item_tree c y) ex ey far
    | inr clash ↦ clash
  ]

  on_one : (i : Id) (t r : Class) → IsIdentifiedOn c i t → IsIdentifiedOn c i r → t ≡ r
  on_one i t r h g = let both : Some h.name ≡ Some g.name = sym h.identified ∙ g.identified in let same : h.name ≡ g.name = cc in sym h.on_track ∙ ap class_of same ∙ g.on_track

  -- two uses of one name, which come from sources
  abbrev two_uses : (n : Text) (u v : UseContent) → IsUseFrom P c n u → IsUseFrom P c n v → TwoUses P n
  two_uses n u v hu hv = record {
    types = hu.types;
    key = hu.key;
    content = hu.content;
    other_types = hv.types;
    other_key = hv.key;
    other_content = hv.content;
    of_these = hu.of_these;
    other_of_these = hv.of_these;
    has = hu.has;
    other_has = hv.has;
  }

  pub interfaces_clash : (n : Text) (u v : UseContent) (expected found : Text) → IsUseFrom P c n u → IsUseFrom P c n v → IsIdentifiedOn c u.interface (class_of expected) → IsIdentifiedOn c v.interface (class_of found)
      → class_of expected ≢ class_of found → InterfacesClash P n expected found
  interfaces_clash n u v expected found hu hv eu ev apart = record {
    two = two_uses n u v hu hv;
    expected_on = subst (λ t. IsIdentifiedOn hu.types hu.content.interface t) (on_one u.interface hu.track (class_of expected) hu.is_on eu) hu.source_on;
    found_on = subst (λ t. IsIdentifiedOn hv.types hv.content.interface t) (on_one v.interface hv.track (class_of found) hv.is_on ev) hv.source_on;
    apart = apart;
  }

  pub names_clash : (n : Text) (u v : UseContent) → IsUseFrom P c n u → IsUseFrom P c n v → u.name ≢ v.name → NamesClash P n
  names_clash n u v hu hv apart = record { two = two_uses n u v hu hv; unequal = λ e. apart (sym hu.same_name ∙ e ∙ hv.same_name) }

-- the import that stood and the item, where they aren't met
pub merged_mismatch : (a : Attempt) (c : Collection) (x y : ItemKind) → IsSound c → AllStand c (item_keys x) → AllStand c (item_keys y)
    → Each (IsSourced (IsSource a.sources) c) (item_keys x) → Each (IsSourced (IsSource a.sources) c) (item_keys y) → AreMerged a c x y → HaveNoLowerBound (item_tree c x) (item_tree c y) → IsReason a mismatch
merged_mismatch a c x y s sx sy hx hy m h = elim (sources_clash (IsSource a.sources) c s x y sx sy hx hy h) [
  | inl far ↦ inl (record { tree = m.tree; stood = m.stood; no_bound = apart_no_bound m.tree (call_tree a.call) (λ l p q. far l (rw m.import_bare p) (rw m.item_bare q)) })
  | inr clash ↦ by_touch clash m.same
]
  where
    by_touch : ExportsClash (IsSource a.sources) → Touches a ⊎ ((item_tree c x ≡ m.tree) × (item_tree c y ≡ call_tree a.call)) → IsReason a mismatch
    by_touch clash (inl touches) = inr (touches, clash)
    by_touch clash (inr same) = inl (record { tree = m.tree; stood = m.stood; no_bound = λ l p q. h l (rw same.0 p) (rw same.1 q) })
