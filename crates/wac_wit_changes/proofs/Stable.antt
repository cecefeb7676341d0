-- What can't fail to fit fits.
use Rattle.std.proofs.Common.{◌≡◌, ◌≤◌, ◌<◌, ℕ, Option, Some, None, refl, ap, subst, arith}
use Rattle.wac_model.specs.Text.{Text}
use Rattle.wac_model.specs.CoreTree.{CoreFits, CoreTree, Limits, LimitsFit, ModuleContent, ModuleFits, ModuleTree, Serves, limited, plain}
use Rattle.wac_model.specs.ItemTree.{ItemTree, Items, Kind, Leaf, Shape, composite, core_module, item_at, leaf}
use Rattle.wac_model.specs.Order.{Fits, leaves, modules}
use Rattle.wac_model.proofs.ItemOrder.{composite_fits, composite_from, leaf_fits, module_fits}
use Rattle.wac_model.proofs.TreeInduction.{tree_induction}
use Rattle.wac_bounds.proofs.Cases.{Fits-case, case_of, cases_decided}
use Rattle.wac_bounds.proofs.Decide.{Core-discrete, Limited-discrete, leaves_decided}

-- what can't fail is so
abbrev pub IsStable : Type 0 → Type 0
IsStable P = ((P → ⊥) → ⊥) → P

stable-decided : {P : Type 0} → Dec P → IsStable P
stable-decided (yes p) h = p
stable-decided (no n) h = absurd (h n)

le-stable : (m n : ℕ) → IsStable (m ≤ n)
le-stable m n h = let below : ¬ (n < m) = λ g. h (λ p. omega arith) in omega arith

module _ {V : Type 0} (R : V → V → Type 0) where
  Serves-stable : (a b : Option V) → ((x y : V) → a ≡ Some x → b ≡ Some y → IsStable (R x y)) → IsStable (Serves R a b)
  Serves-stable a None all h = tt
  Serves-stable None (Some y) all h = h (λ p. p)
  Serves-stable (Some x) (Some y) all h = all x y refl refl h

LimitsFit-stable : (a b : Limits) → IsStable (LimitsFit a b)
LimitsFit-stable a b h = (
  le-stable b.initial a.initial (λ no. h (λ f. no f.0)),
  Serves-stable (λ m n. m ≤ n) a.maximum b.maximum (λ x y _ _. le-stable x y) (λ no. h (λ f. no f.1)),
)

CoreFits-stable : (a b : CoreTree) → IsStable (CoreFits a b)
CoreFits-stable (limited k a) (limited l b) h = (stable-decided (Limited-discrete k l) (λ no. h (λ f. no f.0)), LimitsFit-stable a b (λ no. h (λ f. no f.1)))
CoreFits-stable (limited k a) (plain l) h = absurd (h (λ e. cc))
CoreFits-stable (plain k) (limited l b) h = absurd (h (λ e. cc))
CoreFits-stable (plain k) (plain l) h = ap plain (stable-decided (Core-discrete k l) (λ no. h (λ e. no (cc))))

ModuleFits-stable : (a b : ModuleContent) → IsStable (ModuleFits a b)
ModuleFits-stable a b h = record {
  exports = λ n. Serves-stable CoreFits _ _ (λ x y _ _. CoreFits-stable x y) (λ no. h (λ f. no (f.exports n)));
  imports = λ n. Serves-stable CoreFits _ _ (λ x y _ _. CoreFits-stable x y) (λ no. h (λ f. no (f.imports n)));
}

of_one_case : (a b : ItemTree) → ((Fits a b → ⊥) → ⊥) → case_of a ≡ case_of b
of_one_case a b h = stable-decided (cases_decided (case_of a) (case_of b)) (λ no. h (λ f. no (Fits-case f)))

of_two_cases : (a b : ItemTree) → (case_of a ≡ case_of b → ⊥) → IsStable (Fits a b)
of_two_cases a b apart h = absurd (apart (of_one_case a b h))

leaves-stable : (j k : Kind) (l m : Leaf) → IsStable (Fits (leaf j l) (leaf k m))
leaves-stable j k l m h =
    let one = of_one_case (leaf j l) (leaf k m) h in
    let kinds : j ≡ k = cc (one) in
    let of : l ≡ m = stable-decided (leaves_decided l m) (λ no. h (λ f. no (leaf_fits f))) in
    subst (λ x. Fits (leaf j l) (leaf x m)) kinds (subst (λ x. Fits (leaf j l) (leaf j x)) of leaves)

modules-stable : (j k : Kind) (l m : ModuleTree) → IsStable (Fits (core_module j l) (core_module k m))
modules-stable j k l m h =
    let one = of_one_case (core_module j l) (core_module k m) h in
    let kinds : j ≡ k = cc (one) in
    subst (λ x. Fits (core_module j l) (core_module x m)) kinds (modules (ModuleFits-stable l.content m.content (λ no. h (λ f. no (module_fits f)))))

composites-stable : (j k : Kind) (s t : Shape) (i e i' e' : Items) → ((n : Text) → IsStable (Serves Fits (item_at e n) (item_at e' n))) → ((n : Text) → IsStable (Serves Fits (item_at i' n) (item_at i n)))
    → IsStable (Fits (composite j s i e) (composite k t i' e'))
composites-stable j k s t i e i' e' exports imports h =
    let one = of_one_case (composite j s i e) (composite k t i' e') h in
    let kinds : j ≡ k = cc (one) in
    let shapes : s ≡ t = cc (one) in
    subst (λ x. Fits (composite j s i e) (composite x t i' e')) kinds (subst (λ x. Fits (composite j s i e) (composite j x i' e')) shapes
    (composite_from j s i e i' e' record {
      exports = λ n. exports n (λ no. h (λ f. no ((composite_fits f).exports n)));
      imports = λ n. imports n (λ no. h (λ f. no ((composite_fits f).imports n)));
    }))

-- the claim of a tree
abbrev AreStable : ItemTree → Type 0
AreStable a = (b : ItemTree) → IsStable (Fits a b) × IsStable (Fits b a)

at_leaf : (k : Kind) (l : Leaf) → AreStable (leaf k l)
at_leaf k l (leaf j m) = (leaves-stable k j l m, leaves-stable j k m l)
at_leaf k l (core_module j m) = (of_two_cases (leaf k l) (core_module j m) (λ e. cc (e)), of_two_cases (core_module j m) (leaf k l) (λ e. cc (e)))
at_leaf k l (composite j s i e) = (of_two_cases (leaf k l) (composite j s i e) (λ e. cc (e)), of_two_cases (composite j s i e) (leaf k l) (λ e. cc (e)))

at_module : (k : Kind) (m : ModuleTree) → AreStable (core_module k m)
at_module k m (leaf j l) = (of_two_cases (core_module k m) (leaf j l) (λ e. cc (e)), of_two_cases (leaf j l) (core_module k m) (λ e. cc (e)))
at_module k m (core_module j l) = (modules-stable k j m l, modules-stable j k l m)
at_module k m (composite j s i e) = (of_two_cases (core_module k m) (composite j s i e) (λ e. cc (e)), of_two_cases (composite j s i e) (core_module k m) (λ e. cc (e)))

module _ (es ts : Items) (all : (n : Text) (t : ItemTree) → item_at es n ≡ Some t → AreStable t) (n : Text) where
  stable_before : IsStable (Serves Fits (item_at es n) (item_at ts n))
  stable_before = Serves-stable Fits (item_at es n) (item_at ts n) (λ x y is _. (all n x is y).0)

  stable_after : IsStable (Serves Fits (item_at ts n) (item_at es n))
  stable_after = Serves-stable Fits (item_at ts n) (item_at es n) (λ x y _ is. (all n y is x).1)

at_composite : (k : Kind) (s : Shape) (i e : Items) → ((n : Text) (t : ItemTree) → item_at i n ≡ Some t → AreStable t) → ((n : Text) (t : ItemTree) → item_at e n ≡ Some t → AreStable t) → AreStable (composite k s i e)
at_composite k s i e hi he (leaf j l) = (of_two_cases (composite k s i e) (leaf j l) (λ e. cc (e)), of_two_cases (leaf j l) (composite k s i e) (λ e. cc (e)))
at_composite k s i e hi he (core_module j m) = (of_two_cases (composite k s i e) (core_module j m) (λ e. cc (e)), of_two_cases (core_module j m) (composite k s i e) (λ e. cc (e)))
at_composite k s i e hi he (composite j t i' e') = (
  composites-stable k j s t i e i' e' (stable_before e e' he) (stable_after i i' hi),
  composites-stable j k t s i' e' i e (stable_after e e' he) (stable_before i i' hi),
)

-- what can't fail to fit fits
pub Fits-stable : (a b : ItemTree) → IsStable (Fits a b)
Fits-stable a b = (tree_induction AreStable at_leaf at_module at_composite a b).0
