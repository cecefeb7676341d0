-- Items that come from sources and have no common lower bound are always apart,
-- or two exports in sources clash.
use Rattle.std.proofs.Common.{◌≡◌, ◌⊎◌, inl, inr, refl, ap, subst, ◌∙◌}
use Rattle.wac_model.specs.Text.{Text}
use Rattle.wac_model.specs.ItemTree.{ItemTree, item_at}
use Rattle.wac_component.specs.Collection.{Collection}
use Rattle.wac_component.specs.Key.{Key, item_keys, Each, AllStand, Stands}
use Rattle.wac_component.specs.Reach.{IsAmong}
use Rattle.wac_component.specs.Sound.{IsSound}
use Rattle.wac_component.specs.Tree.{item_tree}
use Rattle.wac_component.specs.Entries.{exports_at}
use Rattle.wac_component.specs.Open.{open_next, stay, step}
use Rattle.wac_component.specs.declared.items.ItemKind.{ItemKind}
use Rattle.wac_component.proofs.Among.{among_each}
use Rattle.wac_component.proofs.OpenWalks.{open_stands}
use Rattle.wac_aggregator_promises.specs.Clash.{ExportsClash}
use Rattle.wac_aggregator_promises.specs.TreeSets.{HaveNoLowerBound}
use Rattle.wac_aggregator_reasons.specs.Bare.{AreAlwaysApart}
use Rattle.wac_aggregator_reasons.specs.Sourced.{IsExportFrom, IsSourced}
use Rattle.wac_aggregator_reasons.proofs.Bare.{apart_no_bound, apart_swaps}
use Rattle.wac_aggregator_reasons.proofs.Conflict.{Conflict, conflict_from}
use Rattle.wac_aggregator_reasons.proofs.Conflict as conflict
use Rattle.wac_aggregator_reasons.proofs.Exported.{export_each, exporting, export_back}

module _ (P : Collection → Key → Type 0) where
  -- so is what it openly leads to
  pub sourced_next : (c : Collection) (k j : Key) → IsSourced P c k → IsAmong j (open_next c k) → IsSourced P c j
  sourced_next c k j h m = record {
    exports = λ t n x w. h.exports t n x (step m w);
    uses = λ t n u w. h.uses t n u (step m w);
  }

  -- two exports of one name that are always apart
  pub exports_clash : (n : Text) (s t : ItemTree) → IsExportFrom P n s → IsExportFrom P n t → AreAlwaysApart s t → ExportsClash P
  exports_clash n s t hs ht far =
      let a = hs t far in
      let ta = item_tree a.types a.export in
      let b = ht ta (apart_swaps ta t a.apart) in
      let tb = item_tree b.types b.export in
      record {
        name = n;
        types = a.types;
        key = a.key;
        export = a.export;
        other_types = b.types;
        other_key = b.key;
        other_export = b.export;
        of_these = a.of_these;
        other_of_these = b.of_these;
        exported = a.exported;
        other_exported = b.exported;
        no_bound = apart_no_bound ta tb (apart_swaps tb ta b.apart);
      }

  module _ (c : Collection) (s : IsSound c) where
    clash_at : {t t' : ItemTree} → Conflict t t' → (x y : ItemKind) → item_tree c x ≡ t → item_tree c y ≡ t' → AllStand c (item_keys x) → AllStand c (item_keys y)
        → Each (IsSourced P c) (item_keys x) → Each (IsSourced P c) (item_keys y) → AreAlwaysApart t t' ⊎ ExportsClash P
    clash_at (conflict.always_apart h) x y p q sx sy hx hy = inl h
    clash_at (conflict.exports {k} {k'} {s = w} {s' = w'} {i} {e} {i'} {e'} n {x = tx} {y = ty} f g h) x y p q sx sy hx hy =
        let a = exporting c s x k w i e sx p in
        let b = exporting c s y k' w' i' e' sy q in
        let u = export_back (item_tree c) (exports_at c a.key) n tx (ap (λ z. item_at z n) a.exports ∙ f) in
        let v = export_back (item_tree c) (exports_at c b.key) n ty (ap (λ z. item_at z n) b.exports ∙ g) in
        let ha = among_each (IsSourced P c) a.key (item_keys x) a.named hx in
        let hb = among_each (IsSourced P c) b.key (item_keys y) b.named hy in
        let rest = clash_at h u.0 v.0 u.2 v.2
        (export_each (Stands c) c a.key n u.0 u.1 (λ j m. open_stands c s a.key j a.stands m)) (export_each (Stands c) c b.key n v.0 v.1 (λ j m. open_stands c s b.key j b.stands m))
        (export_each (IsSourced P c) c a.key n u.0 u.1 (λ j m. sourced_next c a.key j ha m)) (export_each (IsSourced P c) c b.key n v.0 v.1 (λ j m. sourced_next c b.key j hb m)) in
        elim rest [
          | inl far ↦ inr (exports_clash n tx ty (subst (λ t. IsExportFrom P n t) u.2 (ha.exports a.key n u.0 stay u.1)) (subst (λ t. IsExportFrom P n t) v.2 (hb.exports b.key n v.0 stay v.1)) far)
          | inr more ↦ inr more
        ]

    pub sources_clash : (x y : ItemKind) → AllStand c (item_keys x) → AllStand c (item_keys y) → Each (IsSourced P c) (item_keys x) → Each (IsSourced P c) (item_keys y)
        → HaveNoLowerBound (item_tree c x) (item_tree c y) → AreAlwaysApart (item_tree c x) (item_tree c y) ⊎ ExportsClash P
    sources_clash x y sx sy hx hy h = clash_at (conflict_from (item_tree c x) (item_tree c y) h) x y refl refl sx sy hx hy
