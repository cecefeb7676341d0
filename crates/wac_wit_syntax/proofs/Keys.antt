-- A word among others.
use Rattle.std.proofs.Common.{◌≡◌, ℕ, Bool, ◌||◌, List, [], ◌∷◌, map, bytes_eq, refl, ap, ◌∙◌}
use Rattle.std.specs.List.{list_any}
use denote.Ref.{Bor}

any_map : (word : List ℕ) (items : List (Bor (List ℕ))) → list_any (λ (k : Bor (List ℕ)). bytes_eq k.now word) items ≡ list_any (λ keyword. bytes_eq keyword word) (map (λ (k : Bor (List ℕ)). k.now) items)
any_map word [] = refl
any_map word (k ∷ ks) = ap (λ t. bytes_eq k.now word || t) (any_map word ks)

pub any_item : (word : List ℕ) (keywords : List (List ℕ)) (items : List (Bor (List ℕ))) (r : Bool) → r ≡ list_any (λ (k : Bor (List ℕ)). bytes_eq k.now word) items → map (λ (k : Bor (List ℕ)). k.now) items ≡ keywords → r ≡ list_any (λ keyword. bytes_eq keyword word) keywords
any_item word keywords items r h e = h ∙ any_map word items ∙ ap (list_any (λ keyword. bytes_eq keyword word)) e
