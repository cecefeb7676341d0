-- What a walk along the parts of types reaches.
use Rattle.std.proofs.Common.{◌≢◌, ◌↔◌, ℕ, List, [], ◌∷◌, map, Contains, length, ◌≤◌, inl, inr, ap, sym, subst, arith}
use Rattle.std.specs.List.{filter_map}
use Rattle.wac_component.specs.Id.{Id}
use Rattle.wac_component.specs.Collection.{Collection}
use Rattle.wac_component.specs.Key.{Key, resource_sort, resource_key, Stands, AllStand}
use Rattle.wac_component.specs.Naming.{key_of}
use Rattle.wac_component.specs.Reach.{IsAmong, here, there}
use Rattle.wac_component.specs.Sound.{IsSound}
use Rattle.wac_component.specs.declared.collection.naming.EntryId.{EntryId}
use Rattle.wac_component.specs.declared.collection.naming.EntryId.TheVariants.{Defined, Resource, Func, Interface, World, Module}
use Rattle.wac_component.proofs.Among.{among_either, among_single, each_among, Contains-first, Contains-later, Contains-cases}
use Rattle.wac_component.proofs.Search.{Searched, Searched-end}
use Rattle.wac_aggregator_alike.specs.Alike.{made_next, IsTypeMadeOf, itself, part, AreResourcesOf}
use Rattle.wac_aggregator_alike.specs.Parts.{resource_in}
use Rattle.wac_aggregator_alike.proofs.MadeOf.{made_stands}

-- one step more
pub made_on : (c : Collection) (k j t : Key) → IsTypeMadeOf c k j → IsAmong t (made_next c j) → IsTypeMadeOf c k t
made_on c k j t itself m = part m itself
made_on c k j t (part {j = i} n w) m = part n (made_on c i j t w m)

-- a walk to what a type is made of
abbrev pub Walked : Collection → Key → ℕ → List Key → Type 0
Walked c k n reached = Searched (made_next c) (IsTypeMadeOf c k) (λ t. Unit {0}) (k ∷ []) n reached

module _ (c : Collection) (k : Key) (n : ℕ) (reached : List Key) (s : Walked c k n reached) where
  pub walked_stand : IsSound c → Stands c k → AllStand c reached
  walked_stand sound st = each_among (Stands c) reached (λ t m. made_stands c sound k t st (s.each t m))

  -- in the end all that the type is made of was reached, and nothing else
  pub walked_all : length reached ≤ n → (t : Key) → IsAmong t reached ↔ IsTypeMadeOf c k t
  walked_all l t = (s.each t, λ w. all k t (s.names k here) w)
    where
      all : (j t : Key) → IsAmong j reached → IsTypeMadeOf c j t → IsAmong t reached
      all j t m itself = m
      all j t m (part {j = i} e w) = all i t ((Searched-end s l j m).1 i e) w

-- ---- the resources among ids

-- what is no resource isn't among them
past : (k : Key) (es : List EntryId) (r : Id) → k.sort ≢ resource_sort → IsAmong (resource_key r) (k ∷ map key_of es) → IsAmong (resource_key r) (map key_of es)
past k es r other m = elim (among_either (k ∷ []) (map key_of es) m) [ inl l ↦ absurd (other (sym (ap (λ (x : Key). x.sort) (among_single k l)))) | inr n ↦ n ]

resource_among : (es : List EntryId) (r : Id) → IsAmong (resource_key r) (map key_of es) → Contains (filter_map resource_in es) r
resource_among [] r m = elim m [ ]
resource_among (Defined d ∷ es) r m = resource_among es r (past (key_of (Defined d)) es r (λ e. absurd (cc)) m)
resource_among (Func d ∷ es) r m = resource_among es r (past (key_of (Func d)) es r (λ e. absurd (cc)) m)
resource_among (Interface d ∷ es) r m = resource_among es r (past (key_of (Interface d)) es r (λ e. absurd (cc)) m)
resource_among (World d ∷ es) r m = resource_among es r (past (key_of (World d)) es r (λ e. absurd (cc)) m)
resource_among (Module d ∷ es) r m = resource_among es r (past (key_of (Module d)) es r (λ e. absurd (cc)) m)
resource_among (Resource q ∷ es) r m = elim (among_either (resource_key q ∷ []) (map key_of es) m) [
  | inl l ↦ let e = among_single (resource_key q) l in subst (λ x. Contains (q ∷ filter_map resource_in es) x) (sym (ap (λ (k : Key). k.id) e)) (Contains-first q (filter_map resource_in es))
  | inr n ↦ Contains-later r q (filter_map resource_in es) (resource_among es r n)
]

among_resource : (es : List EntryId) (r : Id) → Contains (filter_map resource_in es) r → IsAmong (resource_key r) (map key_of es)
among_resource [] r m = absurd (omega (arith, m.1))
among_resource (Defined d ∷ es) r m = there (among_resource es r m)
among_resource (Func d ∷ es) r m = there (among_resource es r m)
among_resource (Interface d ∷ es) r m = there (among_resource es r m)
among_resource (World d ∷ es) r m = there (among_resource es r m)
among_resource (Module d ∷ es) r m = there (among_resource es r m)
among_resource (Resource q ∷ es) r m = elim (Contains-cases r q (filter_map resource_in es) m) [
  | inl same ↦ subst (λ x. IsAmong (resource_key x) (resource_key q ∷ map key_of es)) same here
  | inr later ↦ there (among_resource es r later)
]

-- the resources among all that a type is made of
pub resources_reached : (c : Collection) (k : Key) (es : List EntryId) → ((t : Key) → IsAmong t (map key_of es) ↔ IsTypeMadeOf c k t) → AreResourcesOf c k (filter_map resource_in es)
resources_reached c k es all r = (λ m. (all (resource_key r)).0 (among_resource es r m), λ w. resource_among es r ((all (resource_key r)).1 w))
