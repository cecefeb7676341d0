-- Trees that fit each other are the same but for the order of names, and
-- the same trees fit each other.
use Rattle.std.proofs.Common.{◌≡◌, refl, Option, Some, None}
use Rattle.wac_model.specs.Text.{Text}
use Rattle.wac_model.specs.CoreTree.{ModuleTree, Serves}
use Rattle.wac_model.specs.ItemTree.{Kind, Leaf, Shape, ItemTree, Items, leaf, core_module, composite, item_at}
use Rattle.wac_model.specs.Order.{Fits, FitsAt, not_asked, there}
use Rattle.wac_model.specs.Laws.{IsAntisymmetric}
use Rattle.wac_model.specs.Same.{Same, SameAt, leaves, modules, composites, neither, both}
use Rattle.wac_model.proofs.CoreOrder.{ModuleFits-antisym, SameModule-sym, ModuleFits-same}
use Rattle.wac_model.proofs.TreeInduction.{tree_induction}
use Rattle.wac_model.proofs.ItemOrder.{to_serves, module_fits, composite_fits}

same_at : (a b : Option ItemTree) → ((s : ItemTree) → a ≡ Some s → (t : ItemTree) → Fits s t → Fits t s → Same s t)
    → Serves Fits a b → Serves Fits b a → SameAt a b
same_at None None h p q = neither
same_at None (Some t) h p q = absurd p
same_at (Some s) None h p q = absurd q
same_at (Some s) (Some t) h p q = both (h s refl t p q)

SameWhenBoth : ItemTree → Type 0
SameWhenBoth a = (b : ItemTree) → Fits a b → Fits b a → Same a b

same_leaf : (k : Kind) (l : Leaf) (b : ItemTree) → Fits (leaf k l) b → Fits b (leaf k l) → Same (leaf k l) b
same_leaf k l b Fits.leaves q = leaves

same_module : (k : Kind) (m : ModuleTree) (b : ItemTree) → Fits (core_module k m) b → Fits b (core_module k m) → Same (core_module k m) b
same_module k m b (Fits.modules {b = n} p) q = modules (ModuleFits-antisym m.content n.content p (module_fits q))

same_composite : (k : Kind) (s : Shape) (i e : Items)
    → ((n : Text) (t : ItemTree) → item_at i n ≡ Some t → SameWhenBoth t)
    → ((n : Text) (t : ItemTree) → item_at e n ≡ Some t → SameWhenBoth t)
    → (b : ItemTree) → Fits (composite k s i e) b → Fits b (composite k s i e) → Same (composite k s i e) b
unfolding SameWhenBoth
same_composite k s i e hi he b (Fits.composites {j = j} {f = f} p q) r =
    let y = composite_fits r in
    composites
    (λ n. same_at (item_at e n) (item_at f n) (he n) (to_serves (p n)) (y.exports n))
    (λ n. same_at (item_at i n) (item_at j n) (hi n) (y.imports n) (to_serves (q n)))

pub same_from_both : (a b : ItemTree) → Fits a b → Fits b a → Same a b
unfolding SameWhenBoth
same_from_both = tree_induction SameWhenBoth same_leaf same_module same_composite

mutual
  pub fits_from_same : {a b : ItemTree} → Same a b → Fits a b
  fits_from_same leaves = Fits.leaves
  fits_from_same (modules {a = x} {b = y} p) = Fits.modules (ModuleFits-same x.content y.content p)
  fits_from_same (composites f g) = Fits.composites (λ n. fits_from_same_at (f n)) (λ n. back_from_same_at (g n))

  fits_from_same_at : {a b : Option ItemTree} → SameAt a b → FitsAt a b
  fits_from_same_at neither = not_asked
  fits_from_same_at (both p) = there (fits_from_same p)

  pub back_from_same : {a b : ItemTree} → Same a b → Fits b a
  back_from_same leaves = Fits.leaves
  back_from_same (modules {a = x} {b = y} p) = Fits.modules (ModuleFits-same y.content x.content (SameModule-sym x.content y.content p))
  back_from_same (composites f g) = Fits.composites (λ n. back_from_same_at (f n)) (λ n. fits_from_same_at (g n))

  back_from_same_at : {a b : Option ItemTree} → SameAt a b → FitsAt b a
  back_from_same_at neither = not_asked
  back_from_same_at (both p) = there (back_from_same p)

pub antisymmetric : IsAntisymmetric
antisymmetric a b = (λ p. same_from_both a b p.0 p.1, λ h. (fits_from_same h, back_from_same h))
