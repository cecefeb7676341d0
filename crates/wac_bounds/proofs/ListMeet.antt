-- The meet of a list of values under an order, from those of two values.
use Rattle.std.proofs.Common.{Option, Some, None, List, [], ◌∷◌}
use Rattle.std.specs.Prelude.{All, Contains}
use Rattle.std.proofs.lemmas.List.Elements.{All-nil, All-cons, All-head, All-tail, All-contains, Contains-get_or}
use Rattle.wac_bounds.specs.MeetIn.{IsMeetIn}

module _ {V : Type 0} (P : V → Type 0) where
  -- what holds of each of ts holds of each of us, which are among them
  pub All-among : (ts us : List V) → ((t : V) → Contains us t → Contains ts t) → All P ts → All P us
  All-among ts us f h = λ k d l. All-contains P ts _ h (f _ (Contains-get_or us k d l))

  pub All-two : (a b : V) (ts : List V) → P a → P b → All P ts → All P (a ∷ b ∷ ts)
  All-two a b ts p q h = All-cons P a (b ∷ ts) p (All-cons P b ts q h)

  pub two_from_All : (a b : V) (ts : List V) → All P (a ∷ b ∷ ts) → P a × P b × All P ts
  two_from_All a b ts h = let rest = All-tail P a (b ∷ ts) h in (All-head P a (b ∷ ts) h, All-head P b ts rest, All-tail P b ts rest)

module _ {V : Type 0} (R : V → V → Type 0) where
  -- m is the greatest value that is below each of ts
  abbrev pub IsMeetOf : V → List V → Type 0
  IsMeetOf m ts = All (R m) ts × ((c : V) → All (R c) ts → R c m)

  module _ (reflexive : (a : V) → R a a) (transitive : (a b c : V) → R a b → R b c → R a c) (bounds : (a b : V) → (o : Option V) × IsMeetIn R a b o) where
    meet_of_more : (t u : V) (us : List V) (c : V) → All (R c) (t ∷ u ∷ us) → (o : Option V) → IsMeetIn R t u o
        → ((m : V) → All (R c) (m ∷ us) → (n : V) × IsMeetOf n (m ∷ us)) → (n : V) × IsMeetOf n (t ∷ u ∷ us)
    meet_of_more t u us c h None g ih = let p = two_from_All (R c) t u us h in absurd (g c p.0 p.1)
    meet_of_more t u us c h (Some m) g ih = let n = ih m (met c h) in (n.0, (parts n.0 n.1.0, λ d x. n.1.1 d (met d x)))
      where
        met : (d : V) → All (R d) (t ∷ u ∷ us) → All (R d) (m ∷ us)
        met d x = let p = two_from_All (R d) t u us x in All-cons (R d) m us (g.2 d p.0 p.1) p.2

        parts : (d : V) → All (R d) (m ∷ us) → All (R d) (t ∷ u ∷ us)
        parts d x = let p = All-head (R d) m us x in All-two (R d) t u us (transitive d m t p g.0) (transitive d m u p g.1) (All-tail (R d) m us x)

    pub meet_exists : (t : V) (ts : List V) (c : V) → All (R c) (t ∷ ts) → (m : V) × IsMeetOf m (t ∷ ts)
    meet_exists t [] c h = (t, (All-cons (R t) t [] (reflexive t) (All-nil (R t)), λ d x. All-head (R d) t [] x))
    meet_exists t (u ∷ us) c h = meet_of_more t u us c h (bounds t u).0 (bounds t u).1 (λ m. meet_exists m us c)
