-- Lists of named values, put together.
use Rattle.std.specs.Prelude.{List, ◌∷◌, ◌++◌, Bool, not, filter, is_some, Option, None, Some}
use Rattle.wac_model.specs.Text.{lookup}

-- whether a list has no value of this name
abbrev pub is_new : {K V : Type 0} → (K → K → Bool) → List (K × V) → K → Bool
is_new is_same es n = not (is_some (lookup is_same es n))

-- the values of the first list, then those of the second whose names the first lacks
abbrev pub with_new : {K V : Type 0} → (K → K → Bool) → List (K × V) → List (K × V) → List (K × V)
with_new is_same es ts = es ++ filter (λ t. is_new is_same es t.0) ts

-- with a value of this name first, if there is one
abbrev pub put : {K V : Type 0} → K → Option V → List (K × V) → List (K × V)
put n None es = es
put n (Some v) es = (n, v) ∷ es
