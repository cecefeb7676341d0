-- Collections under numbers.
use Rattle.std.specs.Prelude.{◌≡◌, ℕ, List, Option, Some, nat_eq}
use Rattle.std.specs.Map.{lookup}
use Rattle.wac_component.specs.Collection.{Collection}

abbrev pub Numbered : Type 0
Numbered = List (ℕ × Collection)

-- the collection of a number, where one was begun
abbrev pub collection_at : Numbered → ℕ → Option Collection
collection_at cs n = lookup (nat_eq n) cs

-- each collection is under its own number
abbrev pub AreNumbered : Numbered → Type 0
AreNumbered cs = (n : ℕ) (c : Collection) → collection_at cs n ≡ Some c → c.number ≡ n
