-- What is found at a name is one value or none.
use Rattle.std.proofs.Common.{◌≡◌, ℕ, true, List, Option, Some, None, refl, sym, ap, ◌∙◌, inl, inr, is_some}
use Rattle.std.specs.Ordering.{is_le, ordering_reverse}
use Rattle.std.specs.Prelude.{MatchOption}
use Rattle.std.specs.declared.cmp.Ordering.{Ordering}
use Rattle.std.specs.declared.cmp.Ordering.TheVariants.{Less, Equal, Greater}
use Rattle.wac_names.specs.Track.{IsCompatible}
use Rattle.wac_names.specs.Pairs.{FindsOne, HasText, IsGreatest, NoneCompatible, value_at}
use Rattle.wac_names.proofs.Standing.{version_total}
use Rattle.wac_names.proofs.Tracks.{compatible_equivalence, versions_tell}

both_le : (r s : Ordering) → r ≡ ordering_reverse s → is_le r ≡ true → is_le s ≡ true → r ≡ Equal
both_le r Less e p q = cc p
both_le r Equal e p q = e
both_le r Greater e p q = cc q

there : {V : Type 0} (ps : List (List ℕ × V)) (t : List ℕ) (v : V) → value_at ps t ≡ Some v → HasText ps t
there ps t v e = ap is_some e

-- two names with the greatest version are one
one_greatest : {V : Type 0} (ps : List (List ℕ × V)) (name : List ℕ) (v w : V) → IsGreatest ps name v → IsGreatest ps name w → v ≡ w
one_greatest {V = V} ps name v w a b = some_same (sym a.there ∙ ap (λ (t : List ℕ). value_at ps t) (texts (compatible_equivalence.transitive a.text name b.text (compatible_equivalence.symmetric name a.text a.compatible) b.compatible)) ∙ b.there) where
  some_same : ◌≡◌ {A = Option V} (Some v) (Some w) → v ≡ w
  some_same e = cc e

  texts : IsCompatible a.text b.text → a.text ≡ b.text
  texts (inl e) = e
  texts (inr x) =
      let le = b.greatest a.text (there ps a.text v a.there) a.compatible x.0 x.1.0 x.2.0 x.1.1 x.2.1 in
      let ge = a.greatest b.text (there ps b.text w b.there) b.compatible x.0 x.2.0 x.1.0 x.2.1 x.1.1 in
      versions_tell a.text b.text x.0 x.1.0 x.2.0 x.1.1 x.2.1 (both_le _ _ (version_total.antisymm x.1.0 x.2.0) le ge)

pub finds_one : (V : Type 0) → FindsOne V
finds_one V ps name r q f h = at (value_at ps name) f h where
  at : (o : Option V) → MatchOption o (MatchOption r (NoneCompatible ps name) (IsGreatest ps name)) (λ v. r ≡ Some v)
      → MatchOption o (MatchOption q (NoneCompatible ps name) (IsGreatest ps name)) (λ v. q ≡ Some v) → r ≡ q
  at (Some v) f h = f ∙ sym h
  at None f h = both r q f h where
    both : (r q : Option V) → MatchOption r (NoneCompatible ps name) (IsGreatest ps name) → MatchOption q (NoneCompatible ps name) (IsGreatest ps name) → r ≡ q
    both None None f h = refl
    both None (Some w) f h = absurd (f h.text (there ps h.text w h.there) h.compatible)
    both (Some v) None f h = absurd (h f.text (there ps f.text v f.there) f.compatible)
    both (Some v) (Some w) f h = ap Some (one_greatest ps name v w f h)
