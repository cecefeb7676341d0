-- Entries that are clones of others, one by one, show what those show.
use Rattle.std.proofs.Common.{◌≡◌, refl, List, [], ◌∷◌, map, String, Global, string_bytes}
use Rattle.std.specs.List.{AllZip}
use Rattle.wac_core.specs.Content.{import_name}
use Rattle.indexmap.specs.IndexMap.{IndexMap, IsClone}

-- C relates a key and its clone, and g is what a key shows; D and f are the same for values
pub entries-clones : {K V X Y S : Type 0} {C : K → K → Type 0} {D : V → V → Type 0} (g : K → X) (f : V → Y)
    → ((k l : K) → C k l → g l ≡ g k) → ((v w : V) → D v w → f w ≡ f v)
    → (m n : IndexMap K V S) → IsClone C D m n → map {A = K × V} {B = X × Y} (λ e. (g e.0, f e.1)) n.entries ≡ map (λ e. (g e.0, f e.1)) m.entries
entries-clones {K} {V} {X} {Y} {C = C} {D = D} g f same_key same_value m n z = step m.entries n.entries z where
  step : (es fs : List (K × V)) → AllZip (λ p q. C p.0 q.0 × D p.1 q.1) es fs → map {A = K × V} {B = X × Y} (λ e. (g e.0, f e.1)) fs ≡ map (λ e. (g e.0, f e.1)) es
  step [] [] z = refl
  step [] (q ∷ fs) z = absurd z
  step (p ∷ es) [] z = absurd z
  step (p ∷ es) (q ∷ fs) z = rw (same_key p.0 q.0 z.0.0, same_value p.1 q.1 z.0.1, step es fs z.1) refl

-- texts that agree make one name of an import
pub import_name-same : (k l : String Global × String Global) → string_bytes l.0 ≡ string_bytes k.0 → string_bytes l.1 ≡ string_bytes k.1 → import_name l ≡ import_name k
import_name-same k l first second = rw (first, second) refl
