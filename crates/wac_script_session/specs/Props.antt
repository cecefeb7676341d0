-- The set for `by { Prim.hlevel props }` after a ghost field that says of items that they stand.
use mathlib.Core.HLevel.{×_prop, Unit-prop}
use Rattle.std.specs.Prelude.{List, [], ◌∷◌}
use Rattle.std.proofs.Props as below
use Rattle.wac_component.specs.Key.{Each, Key}

pub Each-prop : (P : Key → Type 0) → ((k : Key) → IsProp (P k)) → (ks : List Key) → IsProp (Each P ks)
Each-prop P p [] = Unit-prop
Each-prop P p (k ∷ ks) = ×_prop (p k) (Each-prop P p ks)

pub ruleset props = (below.props, Each-prop)
