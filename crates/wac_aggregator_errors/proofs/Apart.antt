-- Two items of which one fits where the other is asked for have a common lower bound.
use Rattle.std.proofs.Common.{◌≡◌, ◌↔◌, sym, subst, Bool, true, false, not, is_some, refl, Option, Some, None, [], ◌∷◌, IsTrue}
use Rattle.std.specs.Option.{option_map}
use Rattle.wac_model.specs.ItemTree.{ItemTree}
use Rattle.wac_model.specs.Order.{Fits}
use Rattle.wac_bounds.specs.Bounds.{IsMeetIfAny}
use Rattle.wac_bounds.proofs.Bounds.{meet_of_ordered}
use Rattle.wac_component.specs.Collection.{Collection}
use Rattle.wac_component.specs.Growth.{Extends}
use Rattle.wac_component.specs.Key.{AllStand, item_keys}
use Rattle.wac_component.specs.Tree.{item_tree}
use Rattle.wac_component.specs.declared.items.ItemKind.{ItemKind}
use Rattle.wac_aggregator_errors.specs.Clashes.{AreApart}

pub unfit : (a b : ItemTree) → AreApart a b → ¬ (Fits a b)
unfit a b apart fits = apart a (meet_of_ordered a b fits).is_below

-- what a meet answers tells whether they are apart
pub apart_or_met : {V : Type 0} (tree : V → ItemTree) (o : Option V) (r : Bool) → is_some o ≡ not r → (a b : ItemTree) → IsMeetIfAny (option_map tree o) (a ∷ b ∷ []) → IsTrue r ↔ AreApart a b
apart_or_met tree None true is a b h = (λ u. h, λ u. refl)
apart_or_met tree None false is a b h = absurd (cc)
apart_or_met tree (Some m) true is a b h = absurd (cc)
apart_or_met tree (Some m) false is a b h = (λ u. absurd (cc), λ apart. absurd (apart (tree m) h.is_below))

-- a fact of the trees of two items that stood, before and after the collection grew
module _ (R : ItemTree → ItemTree → Type 0) (c d : Collection) (grown : Extends c d) (a b : ItemKind) (sa : AllStand c (item_keys a)) (sb : AllStand c (item_keys b)) where
  pub trees_before : R (item_tree d a) (item_tree d b) → R (item_tree c a) (item_tree c b)
  trees_before h = subst (λ s. R s (item_tree c b)) (grown.trees a sa) (subst (λ t. R (item_tree d a) t) (grown.trees b sb) h)

  pub trees_after : R (item_tree c a) (item_tree c b) → R (item_tree d a) (item_tree d b)
  trees_after h = subst (λ s. R s (item_tree d b)) (sym (grown.trees a sa)) (subst (λ t. R (item_tree c a) t) (sym (grown.trees b sb)) h)

-- two that a test says aren't apart
pub not_apart_from : (c d : Collection) → Extends c d → (a b : ItemKind) → AllStand c (item_keys a) → AllStand c (item_keys b) → (r : Bool) → r ≡ false → IsTrue r ↔ AreApart (item_tree d a) (item_tree d b)
    → (o : Option ItemKind) → o ≡ Some b → (y : ItemKind) → o ≡ Some y → ¬ (AreApart (item_tree c a) (item_tree c y))
not_apart_from c d grown a b sa sb r false_is says o there y same apart =
    let e : y ≡ b = cc in
    let yes : IsTrue r = says.1 (trees_after AreApart c d grown a b sa sb (subst (λ z. AreApart (item_tree c a) (item_tree c z)) e apart)) in
    absurd (cc)
