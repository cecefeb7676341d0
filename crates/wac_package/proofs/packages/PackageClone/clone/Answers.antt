use Rattle.std.proofs.Common.{◌≡◌, List, [], ◌∷◌, ℕ, refl}
use Rattle.std.specs.List.{AllZip}
use Rattle.wac_component.proofs.CloneLemmas.{named-clones}
use Rattle.wac_package.proofs.packages.PackageClone.clone.Goals as goal

same_bytes : (xs ys : List ℕ) → AllZip (λ x y. y ≡ x) xs ys → ys ≡ xs
same_bytes [] [] z = refl
same_bytes [] (y ∷ ys) z = absurd z
same_bytes (x ∷ xs) [] z = absurd z
same_bytes (x ∷ xs) (y ∷ ys) z = rw (z.0, same_bytes xs ys z.1) refl

pub returns : goal.returns
returns c =
    let definitions = named-clones (λ k. k) (λ k l same. same) c.self.inside.definitions c.in_ok-clone-3.field-0 c.in_ok-clone-3.ensures.cases in
    let bytes = same_bytes c.self.inside.bytes.items c.in_ok-clone-2.field-0.items c.in_ok-clone-2.ensures.cases.0 in
    record { cases = rw (c.in_ok-clone.ensures.cases, bytes, definitions) c.self.view_is }
