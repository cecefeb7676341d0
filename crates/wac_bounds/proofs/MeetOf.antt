-- The meet and the join of two values in any relation, and of what
-- two collections have at one name.
use Rattle.std.proofs.Common.{◌≡◌, refl, Option, Some, None, option_map, option_and_then}
use Rattle.wac_model.specs.CoreTree.{Serves}
use Rattle.wac_bounds.specs.MeetIn.{IsMeetIn, IsJoinIn}

-- o, where P holds
abbrev pub given : {P A : Type 0} → Dec P → Option A → Option A
given (yes p) o = o
given (no h) o = None

-- v, met with what stands there
abbrev pub met : {V : Type 0} → (V → Option V) → V → Option V → Option V
met f v None = Some v
met f v (Some w) = f w

abbrev pub opt_meet : {V : Type 0} → (V → V → Option V) → Option V → Option V → Option (Option V)
opt_meet f None b = Some b
opt_meet f (Some v) b = option_map Some (met (f v) v b)

abbrev pub opt_join : {V : Type 0} → (V → V → Option V) → Option V → Option V → Option V
opt_join f None b = None
opt_join f (Some v) b = option_and_then (f v) b

module _ {V : Type 0} (R : V → V → Type 0) where
  -- only where P holds is anything below both
  pub given_is : {P : Type 0} (a b : V) (o : Option V) (d : Dec P) → (P → IsMeetIn R a b o) → ((c : V) → R c a → R c b → P) → IsMeetIn R a b (given d o)
  given_is a b o (yes p) f g = f p
  given_is a b o (no h) f g = λ c p q. h (g c p q)

  pub meet_both : (v w : V) (o : Option V) → IsMeetIn R v w o → IsMeetIn (Serves R) (Some v) (Some w) (option_map Some o)
  meet_both v w None h = below
    where
      below : (c : Option V) → Serves R c (Some v) → Serves R c (Some w) → ⊥
      below None p q = p
      below (Some c) p q = h c p q
  meet_both v w (Some m) h = (h.0, h.1, below)
    where
      below : (c : Option V) → Serves R c (Some v) → Serves R c (Some w) → Serves R c (Some m)
      below None p q = p
      below (Some c) p q = h.2 c p q

  pub join_both : (v w : V) (o : Option V) → IsJoinIn R v w o → IsJoinIn (Serves R) (Some v) (Some w) (Some o)
  join_both v w None h = (tt, tt, above)
    where
      above : (c : Option V) → Serves R (Some v) c → Serves R (Some w) c → Serves R None c
      above None p q = tt
      above (Some c) p q = h c p q
  join_both v w (Some m) h = (h.0, h.1, above)
    where
      above : (c : Option V) → Serves R (Some v) c → Serves R (Some w) c → Serves R (Some m) c
      above None p q = tt
      above (Some c) p q = h.2 c p q

  pub opt_meet_is : (f : V → V → Option V) (a b : Option V) → ((v : V) → a ≡ Some v → R v v) → ((w : V) → b ≡ Some w → R w w)
      → ((v : V) → a ≡ Some v → (w : V) → b ≡ Some w → IsMeetIn R v w (f v w)) → IsMeetIn (Serves R) a b (opt_meet f a b)
  opt_meet_is f None None r s h = (tt, tt, λ c p q. tt)
  opt_meet_is f None (Some w) r s h = (tt, s w refl, λ c p q. q)
  opt_meet_is f (Some v) None r s h = (r v refl, tt, λ c p q. p)
  opt_meet_is f (Some v) (Some w) r s h = meet_both v w (f v w) (h v refl w refl)

  pub opt_join_is : (f : V → V → Option V) (a b : Option V) → ((v : V) → a ≡ Some v → (w : V) → b ≡ Some w → IsJoinIn R v w (f v w))
      → IsJoinIn (Serves R) a b (Some (opt_join f a b))
  opt_join_is f None b h = (tt, tt, λ c p q. p)
  opt_join_is f (Some v) None h = (tt, tt, λ c p q. q)
  opt_join_is f (Some v) (Some w) h = join_both v w (f v w) (h v refl w refl)
