-- Where no walk returns, none is longer than the number of entries.
use Rattle.std.proofs.Common.{◌≡◌, ◌≢◌, ℕ, suc, zero, ◌+◌, ◌<◌, ◌≤◌, List, [], ◌∷◌, Bool, true, false, ◌||◌, refl, arith, length, map, subst, eqb, eqb-true, sym}
use Rattle.std.specs.List.{list_all, list_any, IsDistinct, AllByRecursion}
use Rattle.std.proofs.lemmas.Bool.{ne_eqb}
use Rattle.std.proofs.lemmas.List.{length-map}
use Rattle.std.proofs.lemmas.Map.Keys.{IsDistinct-cons, IsDistinct-from_apart}
use Rattle.std.proofs.lemmas.Map.Steps.{length-le_from_distinct_below}
use Rattle.wac_component.specs.Collection.{Collection}
use Rattle.wac_component.specs.Key.{Key, next, Stands, AllStand}
use Rattle.wac_component.specs.Sound.{walks_end, entry_count, IsSound}
use Rattle.wac_component.specs.Reach.{IsAmong, here, there, Reaches, stay, step}
use Rattle.wac_component.proofs.Positions.{position, position_below, same_position}
use Rattle.wac_component.proofs.Walks.{among_stands}

pub Reaches-trans : (c : Collection) (k j t : Key) → Reaches c k j → Reaches c j t → Reaches c k t
Reaches-trans c k j t stay v = v
Reaches-trans c k j t (step {j = i} m w) v = step m (Reaches-trans c i j t w v)

-- no walk of a step or more leads back to its start
abbrev pub NoReturn : Collection → Type 0
NoReturn c = (k j : Key) → Stands c k → IsAmong j (next c k) → Reaches c j k → ⊥

-- the list has each id once, each stands, and a walk of a step or more leads from each to t
record LeadTo (c : Collection) (vs : List Key) (t : Key) : Type 0 where
  pub distinct : IsDistinct eqb (map (position c) vs)
  pub stand : AllStand c vs
  pub lead : (v : Key) → IsAmong v vs → (j : Key) × IsAmong j (next c v) × Reaches c j t

-- ids that stand and that are not another one have other positions
pub positions_differ : (c : Collection) (vs : List Key) (t : Key) → AllStand c vs → Stands c t → ((v : Key) → IsAmong v vs → v ≢ t) → AllByRecursion (λ y. eqb (position c t) y ≡ false) (map (position c) vs)
positions_differ c [] t h st ne = tt
positions_differ c (v ∷ vs) t h st ne = (differs, positions_differ c vs t h.1 st (λ w m. ne w (there m)))
  where
    differs : eqb (position c t) (position c v) ≡ false
    differs = ne_eqb (position c t) (position c v) (λ q. ne v here (sym (same_position c t v st h.0 q)))

-- each position of ids that stand is below the number of entries
pub positions_below : (c : Collection) (vs : List Key) → AllStand c vs → (q : ℕ) → list_any (eqb q) (map (position c) vs) ≡ true → q < entry_count c
positions_below c [] h q m = absurd (cc)
positions_below c (v ∷ vs) h q m = by_test (positions_below c vs h.1 q) (eqb q (position c v)) refl m
  where
    by_test : (list_any (eqb q) (map (position c) vs) ≡ true → q < entry_count c) → (b : Bool) → eqb q (position c v) ≡ b → (eqb q (position c v) || list_any (eqb q) (map (position c) vs)) ≡ true → q < entry_count c
    by_test others true e m = let same : q ≡ position c v = eqb-true q (position c v) e in omega (arith, position_below c v h.0)
    by_test others false e m = others (rw e at m)

module _ (c : Collection) (none : NoReturn c) where
  -- an id to which walks lead from all of the list is none of it
  apart_from : (vs : List Key) (t : Key) → LeadTo c vs t → Stands c t → AllByRecursion (λ y. eqb (position c t) y ≡ false) (map (position c) vs)
  apart_from vs t l st = positions_differ c vs t l.stand st (λ v m q. none v (l.lead v m).0 (among_stands c v vs m l.stand) (l.lead v m).1 (subst (λ (x : Key). Reaches c (l.lead v m).0 x) (sym q) (l.lead v m).2))

  too_many : (vs : List Key) (t : Key) → LeadTo c vs t → Stands c t → length vs ≡ entry_count c → ⊥
  too_many vs t l st full =
      let most : length (map (position c) (t ∷ vs)) ≤ entry_count c = length-le_from_distinct_below (map (position c) (t ∷ vs)) (entry_count c) (IsDistinct-cons eqb (position c t) (map (position c) vs) (apart_from vs t l st) l.distinct) (positions_below c (t ∷ vs) (st, l.stand)) in
      omega (arith, most, length-map vs (position c))

  -- the list, with t before it, leads to what t names
  leads_on : (vs : List Key) (t : Key) → LeadTo c vs t → Stands c t → (j : Key) → IsAmong j (next c t) → LeadTo c (t ∷ vs) j
  leads_on vs t l st j m = record {
    distinct = IsDistinct-cons eqb (position c t) (map (position c) vs) (apart_from vs t l st) l.distinct;
    stand = (st, l.stand);
    lead = lead;
  }
    where
      lead : (v : Key) → IsAmong v (t ∷ vs) → (i : Key) × IsAmong i (next c v) × Reaches c i j
      lead v here = (j, m, stay)
      lead v (there n) = ((l.lead v n).0, (l.lead v n).1, Reaches-trans c (l.lead v n).0 t j (l.lead v n).2 (step m stay))

  module _ (standing : (k : Key) → Stands c k → AllStand c (next c k)) where
    all_pass : (p : Key → Bool) (ks : List Key) → ((k : Key) → IsAmong k ks → p k ≡ true) → list_all p ks ≡ true
    all_pass p [] h = refl
    all_pass p (k ∷ ks) h = rw (h k here, all_pass p ks (λ j m. h j (there m))) refl

    walks_end_after : (n : ℕ) (vs : List Key) (t : Key) → LeadTo c vs t → Stands c t → length vs + n ≡ entry_count c → walks_end n c t ≡ true
    walks_end_after zero vs t l st e = absurd (too_many vs t l st (omega arith))
    walks_end_after (suc n) vs t l st e = all_pass (walks_end n c) (next c t) (λ j m. walks_end_after n (t ∷ vs) j (leads_on vs t l st j m) (among_stands c j (next c t) m (standing t st)) (omega arith))

    pub IsSound-NoReturn : IsSound c
    IsSound-NoReturn = record {
      standing = standing;
      ending = λ k st. walks_end_after (entry_count c) [] k (record { distinct = IsDistinct-from_apart eqb [] (λ i j d h k. absurd (omega arith)); stand = tt; lead = λ v m. elim m [ ] }) st (omega arith);
    }
