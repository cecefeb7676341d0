-- A pair as it is kept asks what the pair asks.
use Rattle.std.proofs.Common.{◌≡◌, ◌&&◌, ◌==◌, Bool, true, false, not, refl, sym}
use Rattle.std.proofs.lemmas.Bool.{eqb-true}
use Rattle.wac_component.specs.Collection.{Collection}
use Rattle.wac_checker.specs.Walk.{kept_pair}
use Rattle.wac_checker_parts.specs.Pairs.{IsFitting, IsStanding, left_of, pair_height, right_of, two_of}
use Rattle.wac_checker_parts.specs.declared.parts.EntryPair.{EntryPair}

-- equal numbers mean one collection
abbrev pub SameByNumber : Collection → Collection → Type 0
SameByNumber c d = c.number ≡ d.number → c ≡ d

module _ (c d : Collection) (one : SameByNumber c d) where
  left_kept : (s e : Bool) → (c.number == d.number) ≡ e → left_of c d (s && not e) ≡ left_of c d s
  left_kept false e is = refl
  left_kept true false is = refl
  left_kept true true is = one (eqb-true c.number d.number is)

  right_kept : (s e : Bool) → (c.number == d.number) ≡ e → right_of c d (s && not e) ≡ right_of c d s
  right_kept false e is = refl
  right_kept true false is = refl
  right_kept true true is = sym (one (eqb-true c.number d.number is))

  module _ (p : EntryPair) where
    left : left_of c d (kept_pair c d p).swapped ≡ left_of c d p.swapped
    left = left_kept p.swapped (c.number == d.number) refl

    right : right_of c d (kept_pair c d p).swapped ≡ right_of c d p.swapped
    right = right_kept p.swapped (c.number == d.number) refl

    pub kept_fits : IsFitting c d p → IsFitting c d (kept_pair c d p)
    kept_fits h = rw (left, right) h

    pub fits_kept : IsFitting c d (kept_pair c d p) → IsFitting c d p
    fits_kept h = rw (left, right) at h

    pub kept_stands : IsStanding c d p → IsStanding c d (kept_pair c d p)
    kept_stands h = rw (left, right) h

    pub kept_unfit : IsStanding c d p × (¬ (IsFitting c d p)) → IsStanding c d (kept_pair c d p) × (¬ (IsFitting c d (kept_pair c d p)))
    kept_unfit h = (kept_stands h.0, λ fits. h.1 (fits_kept fits))

    pub kept_height : pair_height c d (two_of c d (kept_pair c d p)) ≡ pair_height c d (two_of c d p)
    kept_height = rw (left, right) refl
