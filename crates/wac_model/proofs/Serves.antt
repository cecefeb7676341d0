-- `Serves R` is an order on what stands at a name, where `R` is one; nothing is above everything.
use Rattle.std.proofs.Common.{◌≡◌, refl, ap, Option, Some, None}
use Rattle.wac_model.specs.CoreTree.{Serves}

module _ {V : Type 0} (R : V → V → Type 0) where
  pub Serves-refl : (a : Option V) → ((v : V) → a ≡ Some v → R v v) → Serves R a a
  Serves-refl None h = tt
  Serves-refl (Some v) h = h v refl

  pub Serves-trans : (a b c : Option V) → ((v : V) → b ≡ Some v → (x z : V) → R x v → R v z → R x z)
      → Serves R a b → Serves R b c → Serves R a c
  Serves-trans a b None h p q = tt
  Serves-trans a None (Some z) h p q = absurd q
  Serves-trans None (Some v) (Some z) h p q = absurd p
  Serves-trans (Some x) (Some v) (Some z) h p q = h v refl x z p q

  pub Serves-antisym : (a b : Option V) → ((x y : V) → R x y → R y x → x ≡ y) → Serves R a b → Serves R b a → a ≡ b
  Serves-antisym None None h p q = refl
  Serves-antisym None (Some y) h p q = absurd p
  Serves-antisym (Some x) None h p q = absurd q
  Serves-antisym (Some x) (Some y) h p q = ap Some (h x y p q)
