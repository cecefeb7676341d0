-- Bounds of two composites, from those of what stands at each name.
use Rattle.std.proofs.Common.{Some, None}
use Rattle.wac_model.specs.Text.{Text}
use Rattle.wac_model.specs.CoreTree.{Serves}
use Rattle.wac_model.specs.ItemTree.{Kind, Shape, ItemTree, Items, composite, item_at}
use Rattle.wac_model.specs.Order.{Fits, composites}
use Rattle.wac_model.proofs.ItemOrder.{composite_fits, CompositeFits, composite_from}
use Rattle.wac_bounds.specs.MeetIn.{IsMeetIn, IsJoinIn}
use Rattle.wac_bounds.proofs.Cases.{Fits-case}

composite_under : {k k' : Kind} {s s' : Shape} {i e i' e' j f : Items} → Fits (composite k s i e) (composite k' s' i' e') → CompositeFits i e j f → Fits (composite k s i e) (composite k' s' j f)
composite_under (composites {k} {s} {i = i} {e = e} p q) h = composite_from k s i e _ _ h

composite_over : {k k' : Kind} {s s' : Shape} {i e i' e' j f : Items} → Fits (composite k s i e) (composite k' s' i' e') → CompositeFits j f i' e' → Fits (composite k s j f) (composite k' s' i' e')
composite_over (composites {k} {s} {j = i'} {f = e'} p q) h = composite_from k s _ _ i' e' h

-- in a meet exports are met and imports joined; in a join it is the other way round
module _ (k : Kind) (s : Shape) (i e i' e' : Items) where
  pub composite_meet : (j f : Items)
      → ((n : Text) → IsMeetIn (Serves Fits) (item_at e n) (item_at e' n) (Some (item_at f n)))
      → ((n : Text) → IsJoinIn (Serves Fits) (item_at i n) (item_at i' n) (Some (item_at j n)))
      → IsMeetIn Fits (composite k s i e) (composite k s i' e') (Some (composite k s j f))
  composite_meet j f m w = (
    composite_from k s j f i e record { exports = λ n. (m n).0; imports = λ n. (w n).0 },
    composite_from k s j f i' e' record { exports = λ n. (m n).1; imports = λ n. (w n).1 },
    below,
  )
    where
      below : (c : ItemTree) → Fits c (composite k s i e) → Fits c (composite k s i' e') → Fits c (composite k s j f)
      below (composite k' s' ic ec) p q =
          let x = composite_fits p in
          let y = composite_fits q in
          composite_under p record { exports = λ n. (m n).2 (item_at ec n) (x.exports n) (y.exports n); imports = λ n. (w n).2 (item_at ic n) (x.imports n) (y.imports n) }
      below _ p q = let e = Fits-case p in absurd (cc)

  pub composite_no_meet : (n : Text) → IsMeetIn (Serves Fits) (item_at e n) (item_at e' n) None → IsMeetIn Fits (composite k s i e) (composite k s i' e') None
  composite_no_meet n h = below
    where
      below : (c : ItemTree) → Fits c (composite k s i e) → Fits c (composite k s i' e') → ⊥
      below (composite k' s' ic ec) p q = h (item_at ec n) ((composite_fits p).exports n) ((composite_fits q).exports n)
      below _ p q = let e = Fits-case p in cc

  pub composite_join : (j f : Items)
      → ((n : Text) → IsJoinIn (Serves Fits) (item_at e n) (item_at e' n) (Some (item_at f n)))
      → ((n : Text) → IsMeetIn (Serves Fits) (item_at i n) (item_at i' n) (Some (item_at j n)))
      → IsJoinIn Fits (composite k s i e) (composite k s i' e') (Some (composite k s j f))
  composite_join j f w m = (
    composite_from k s i e j f record { exports = λ n. (w n).0; imports = λ n. (m n).0 },
    composite_from k s i' e' j f record { exports = λ n. (w n).1; imports = λ n. (m n).1 },
    above,
  )
    where
      above : (c : ItemTree) → Fits (composite k s i e) c → Fits (composite k s i' e') c → Fits (composite k s j f) c
      above (composite k' s' ic ec) p q =
          let x = composite_fits p in
          let y = composite_fits q in
          composite_over p record { exports = λ n. (w n).2 (item_at ec n) (x.exports n) (y.exports n); imports = λ n. (m n).2 (item_at ic n) (x.imports n) (y.imports n) }
      above _ p q = let e = Fits-case p in absurd (cc)

  pub composite_no_join : (n : Text) → IsMeetIn (Serves Fits) (item_at i n) (item_at i' n) None → IsJoinIn Fits (composite k s i e) (composite k s i' e') None
  composite_no_join n h = above
    where
      above : (c : ItemTree) → Fits (composite k s i e) c → Fits (composite k s i' e') c → ⊥
      above (composite k' s' ic ec) p q = h (item_at ic n) ((composite_fits p).imports n) ((composite_fits q).imports n)
      above _ p q = let e = Fits-case p in cc
