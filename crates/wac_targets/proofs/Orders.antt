-- Texts that are the keys of a set or a map ascend byte by byte.
use Rattle.std.proofs.Common.{◌≡◌, List, [], ◌∷◌, map}
use Rattle.std.specs.Cmp.Lexicographic.{slice_cmp}
use Rattle.std.specs.List.{AllByRecursion}
use Rattle.std.specs.List.Sorted.{IsStrictlySortedBy}
use Rattle.std.specs.Map.{keys_of}
use Rattle.std.specs.Ordering.{nat_cmp}
use Rattle.std.specs.declared.cmp.Ordering.TheVariants.{Less}
use Rattle.wac_model.specs.Text.{Text}

module _ {X : Type 0} (text : X → Text) where
  below : (x : X) (xs : List X) → AllByRecursion (λ y. slice_cmp nat_cmp (text x) (text y) ≡ Less) xs → AllByRecursion (λ t. slice_cmp nat_cmp (text x) t ≡ Less) (map text xs)
  below x [] h = tt
  below x (y ∷ ys) h = (h.0, below x ys h.1)

  pub texts-ascend : (xs : List X) → IsStrictlySortedBy (λ x y. slice_cmp nat_cmp (text x) (text y)) xs → IsStrictlySortedBy (slice_cmp nat_cmp) (map text xs)
  unfolding IsStrictlySortedBy
  texts-ascend [] h = tt
  texts-ascend (x ∷ xs) h = (below x xs h.0, texts-ascend xs h.1)

module _ {X V : Type 0} (text : X → Text) where
  below-keys : (x : X) (es : List (X × V)) → AllByRecursion (λ y. slice_cmp nat_cmp (text x) (text y) ≡ Less) (keys_of es) → AllByRecursion (λ t. slice_cmp nat_cmp (text x) t ≡ Less) (keys_of (map (λ (e : X × V). (text e.0, e.1)) es))
  below-keys x [] h = tt
  below-keys x (e ∷ es) h = (h.0, below-keys x es h.1)

  pub keys-ascend : (es : List (X × V)) → IsStrictlySortedBy (λ x y. slice_cmp nat_cmp (text x) (text y)) (keys_of es) → IsStrictlySortedBy (slice_cmp nat_cmp) (keys_of (map (λ (e : X × V). (text e.0, e.1)) es))
  unfolding IsStrictlySortedBy
  keys-ascend [] h = tt
  keys-ascend (e ∷ es) h = (below-keys e.0 es h.0, keys-ascend es h.1)
