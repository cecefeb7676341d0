-- A collection with another entry at an id, from which no walk led to the id, is sound, and what
-- didn't reach the id is as it was.
use Rattle.std.proofs.Common.{◌≡◌, ◌≢◌, List, Some, length, ◌⊎◌, inl, inr, refl, ap, sym, ◌∙◌, subst}
use Rattle.wac_component.specs.Collection.{Collection}
use Rattle.wac_component.specs.Key.{Key, Sort, Entry, entries, entry_at, entry_keys, next, optional_keys, Each, Stands, AllStand, item_keys}
use Rattle.wac_component.specs.Sound.{entry_count, IsSound}
use Rattle.wac_component.specs.Reach.{IsAmong, Reaches, stay, step}
use Rattle.wac_component.specs.Replacing.{NamesReach, Replaces}
use Rattle.wac_component.proofs.Among.{among_each, each_among}
use Rattle.wac_component.proofs.Keys.{Each-map, Key-discrete}
use Rattle.wac_component.proofs.Walks.{next_stands, no_walk_returns}
use Rattle.wac_component.proofs.Returns.{Reaches-trans, NoReturn, IsSound-NoReturn}
use Rattle.wac_component.proofs.Unfolded.{Keeps}
use Rattle.wac_component.proofs.Kept.{height-kept, item_tree-kept}

-- d is c with this entry at k
pub record Puts (c d : Collection) (k : Key) (e : Entry) : Type 0 where
  pub number : d.number ≡ c.number
  pub lengths : (s : Sort) → length (entries d s) ≡ length (entries c s)
  pub count : entry_count d ≡ entry_count c
  pub entry : entry_at d k ≡ Some e
  pub others : (j : Key) → Stands c j → j ≢ k → entry_at d j ≡ entry_at c j

module _ (c d : Collection) (k : Key) (e : Entry) (puts : Puts c d k e) where
  pub stands_on : (j : Key) → Stands c j → Stands d j
  stands_on j h = (h.0 ∙ sym puts.number, rw (puts.lengths j.sort) h.1)

  pub stood : (j : Key) → Stands d j → Stands c j
  stood j h = (h.0 ∙ puts.number, let i = h.1 in rw (puts.lengths j.sort) at i)

  pub all_stand_on : (ks : List Key) → AllStand c ks → AllStand d ks
  all_stand_on = Each-map (Stands c) (Stands d) stands_on

  pub next_same : (j : Key) → Stands c j → j ≢ k → next d j ≡ next c j
  next_same j h ne = ap (optional_keys entry_keys) (puts.others j h ne)

  -- the id stands, and no walk leads from it to k
  abbrev pub IsApart : Key → Type 0
  IsApart j = Stands c j × (Reaches c j k → ⊥)

  apart_ne : (j : Key) → IsApart j → j ≢ k
  apart_ne j p same = p.1 (subst (λ x. Reaches c j x) same stay)

  pub all_apart : (ks : List Key) → AllStand c ks → (NamesReach c ks k → ⊥) → Each IsApart ks
  all_apart ks h none = each_among IsApart ks (λ j m. (among_each (Stands c) j ks m h, λ w. none (j, m, w)))

  module _ (sound : IsSound c) where
    next_apart : (j : Key) → IsApart j → Each IsApart (next c j)
    next_apart j p = all_apart (next c j) (sound.standing j p.0) (λ n. p.1 (step n.1 n.2))

    pub keeps_apart : Keeps c d IsApart
    keeps_apart = record { closed = next_apart; same_entry = λ j p. puts.others j p.0 (apart_ne j p); ending = λ j p. sound.ending j p.0; added = 0; count = puts.count }

    pub Replaces-Puts : Replaces c d k
    Replaces-Puts = record {
      number = puts.number;
      standing = stands_on;
      same_entry = puts.others;
      heights = λ j h none. height-kept c d IsApart keeps_apart j (h, none);
      trees = λ i h none. item_tree-kept c d IsApart keeps_apart i (all_apart (item_keys i) h none);
    }

    -- what a walk in d leads to from there is apart too
    reached_apart : (j t : Key) → IsApart j → Reaches d j t → IsApart t
    reached_apart j t p stay = p
    reached_apart j t p (step {j = i} m w) = reached_apart i t (among_each IsApart i (next c j) (subst (λ ks. IsAmong i ks) (next_same j p.0 (apart_ne j p)) m) (next_apart j p)) w

    -- a walk in d is one in c, or passes through k
    pub same_or_through : (j t : Key) → Stands c j → Reaches d j t → Reaches c j t ⊎ (Reaches d j k × Reaches d k t)
    same_or_through j t st stay = inl stay
    same_or_through j t st (step {j = i} m w) = by_key (Key-discrete j k) (λ si. same_or_through i t si w)
      where
        onward : IsAmong i (next c j) → Reaches c i t ⊎ (Reaches d i k × Reaches d k t) → Reaches c j t ⊎ (Reaches d j k × Reaches d k t)
        onward n (inl v) = inl (step n v)
        onward n (inr v) = inr (step m v.0, v.1)

        by_key : Dec (j ≡ k) → (Stands c i → Reaches c i t ⊎ (Reaches d i k × Reaches d k t)) → Reaches c j t ⊎ (Reaches d j k × Reaches d k t)
        by_key (yes same) rest = inr (subst (λ x. Reaches d j x) same stay, subst (λ x. Reaches d x t) same (step m w))
        by_key (no ne) rest = let n = subst (λ ks. IsAmong i ks) (next_same j st ne) m in onward n (rest (next_stands c j i sound st n))

    module _ (named : AllStand c (entry_keys e)) (none : NamesReach c (entry_keys e) k → ⊥) where
      -- what k names in d is apart from it
      named_apart : (j : Key) → IsAmong j (next d k) → IsApart j
      named_apart j m = among_each IsApart j (entry_keys e) (subst (λ o. IsAmong j (optional_keys entry_keys o)) puts.entry m) (all_apart (entry_keys e) named none)

      k_returns : (j : Key) → IsAmong j (next d k) → Reaches d j k → ⊥
      k_returns j m w = (reached_apart j k (named_apart j m) w).1 stay

      -- a walk from k to another id, and on to k
      through_other : (j i : Key) → j ≢ k → Reaches d k j → IsAmong i (next d j) → Reaches d i k → ⊥
      through_other j i ne stay m w = ne refl
      through_other j i ne (step {j = h} n v) m w = k_returns h n (Reaches-trans d h j k v (step m w))

      no_return : NoReturn d
      no_return j i st m w = by_key (Key-discrete j k)
        where
          by_walk : j ≢ k → Reaches c i j ⊎ (Reaches d i k × Reaches d k j) → ⊥
          by_walk ne (inl v) = no_walk_returns c sound j i (stood j st) (subst (λ ks. IsAmong i ks) (next_same j (stood j st) ne) m) v
          by_walk ne (inr v) = through_other j i ne v.1 m v.0

          by_key : Dec (j ≡ k) → ⊥
          by_key (yes same) = k_returns i (subst (λ x. IsAmong i (next d x)) same m) (subst (λ x. Reaches d i x) same w)
          by_key (no ne) = by_walk ne (same_or_through i j (next_stands c j i sound (stood j st) (subst (λ ks. IsAmong i ks) (next_same j (stood j st) ne) m)) w)

      next_standing : (j : Key) → Stands d j → AllStand d (next d j)
      next_standing j st = by_key (Key-discrete j k)
        where
          by_key : Dec (j ≡ k) → AllStand d (next d j)
          by_key (yes same) = subst (λ x. AllStand d (next d x)) (sym same) (subst (λ o. AllStand d (optional_keys entry_keys o)) (sym puts.entry) (all_stand_on (entry_keys e) named))
          by_key (no ne) = subst (λ ks. AllStand d ks) (sym (next_same j (stood j st) ne)) (all_stand_on (next c j) (sound.standing j (stood j st)))

      pub IsSound-Puts : IsSound d
      IsSound-Puts = IsSound-NoReturn d no_return next_standing
