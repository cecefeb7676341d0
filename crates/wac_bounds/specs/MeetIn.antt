-- The meet and the join of two values under a relation: R x y says that x is below y.
use Rattle.std.specs.Prelude.{Option, Some, None}

-- the greatest value below a and b, or none where nothing is below both
abbrev pub IsMeetIn : {V : Type 0} → (V → V → Type 0) → V → V → Option V → Type 0
IsMeetIn {V} R a b None = (c : V) → R c a → R c b → ⊥
IsMeetIn {V} R a b (Some m) = R m a × R m b × ((c : V) → R c a → R c b → R c m)

-- the least value above a and b, or none where nothing is above both
abbrev pub IsJoinIn : {V : Type 0} → (V → V → Type 0) → V → V → Option V → Type 0
IsJoinIn R = IsMeetIn (λ x y. R y x)
