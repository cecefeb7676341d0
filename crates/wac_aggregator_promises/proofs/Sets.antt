-- Bounds of lists and of sets of trees.
use Rattle.std.proofs.Common.{◌≡◌, ◌⊎◌, inl, inr, subst, sym, Some}
use Rattle.wac_model.specs.ItemTree.{ItemTree}
use Rattle.wac_model.specs.Order.{Fits}
use Rattle.wac_model.specs.Same.{Same}
use Rattle.wac_model.proofs.ItemOrder.{Fits-refl, Fits-trans}
use Rattle.wac_model.proofs.Antisymmetry.{same_from_both}
use Rattle.wac_bounds.specs.MeetIn.{IsMeetIn}
use Rattle.wac_aggregator_promises.specs.TreeSets.{IsBelowEach, IsMeetOf, HaveLowerBound}

module _ (P Q : ItemTree → Type 0) (from : (t : ItemTree) → Q t → P t) where
  -- what is below each of a set is below each of a part of it
  pub below_part : (m : ItemTree) → IsBelowEach m P → IsBelowEach m Q
  below_part m h t q = h t (from t q)

  pub bound_part : HaveLowerBound P → HaveLowerBound Q
  bound_part h = (h.0, below_part h.0 h.1)

-- a set with the same trees has the same meets
pub meet_moves : (P Q : ItemTree → Type 0) → ((t : ItemTree) → P t → Q t) → ((t : ItemTree) → Q t → P t) → (m : ItemTree) → IsMeetOf m P → IsMeetOf m Q
meet_moves P Q to from m h = record { is_below = below_part P Q from m h.is_below; is_greatest = λ c b. h.is_greatest c (below_part Q P to c b) }

-- there is one meet, but for the order of names
pub one_meet_of : (P : ItemTree → Type 0) (m n : ItemTree) → IsMeetOf m P → IsMeetOf n P → Same m n
one_meet_of P m n p q = same_from_both m n (q.is_greatest m p.is_below) (p.is_greatest n q.is_below)

-- the meet of a set's meet and one tree more
module _ (P Q : ItemTree → Type 0) (t : ItemTree) (old : (x : ItemTree) → P x → Q x) (new : Q t) (cases : (x : ItemTree) → Q x → P x ⊎ (x ≡ t)) where
  below_more : (m c : ItemTree) → IsMeetOf m P → Fits c m → Fits c t → IsBelowEach c Q
  below_more m c h p q x at = by_cases (cases x at)
    where
      by_cases : P x ⊎ (x ≡ t) → Fits c x
      by_cases (inl a) = Fits-trans c m x p (h.is_below x a)
      by_cases (inr e) = subst (λ y. Fits c y) (sym e) q

  pub meet_of_more : (m n : ItemTree) → IsMeetOf m P → IsMeetIn Fits m t (Some n) → IsMeetOf n Q
  meet_of_more m n h g = record {
    is_below = below_more m n h g.0 g.1;
    is_greatest = λ c b. g.2 c (h.is_greatest c (below_part Q P old c b)) (b t new);
  }

  -- where the two have no common lower bound, neither has the set
  pub no_bound_of_more : (m : ItemTree) → IsMeetOf m P → ((c : ItemTree) → Fits c m → Fits c t → ⊥) → ¬ HaveLowerBound Q
  no_bound_of_more m h none b = none b.0 (h.is_greatest b.0 (below_part Q P old b.0 b.1)) (b.1 t new)

-- a set of one tree
pub meet_of_one : (Q : ItemTree → Type 0) (t : ItemTree) → Q t → ((x : ItemTree) → Q x → x ≡ t) → IsMeetOf t Q
meet_of_one Q t new same = record {
  is_below = λ x at. subst (λ y. Fits t y) (sym (same x at)) (Fits-refl t);
  is_greatest = λ c b. b t new;
}
