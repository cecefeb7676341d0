-- What an interface that is taken out of its entry leaves: fewer walks, so that it may be put back.
use Rattle.std.proofs.Common.{◌≡◌, ◌≢◌, ℕ, suc, zero, List, [], ◌∷◌, Some, set, slice_get, refl, ap, sym, subst, ◌∙◌}
use Rattle.wac_component.specs.Collection.{Collection, InterfaceContent}
use Rattle.wac_component.specs.Id.{Id}
use Rattle.wac_component.specs.Key.{Key, Each, Stands, AllStand, interface_entry, interface_key, interface_keys, entry_keys, next, optional_keys}
use Rattle.wac_component.specs.Reach.{IsAmong, Reaches, stay, step}
use Rattle.wac_component.specs.Replacing.{NamesReach}
use Rattle.wac_component.specs.Sound.{IsSound}
use Rattle.wac_component.specs.TakenOut.{no_content, without_content}
use Rattle.wac_component.proofs.Among.{among_each, each_among}
use Rattle.wac_component.proofs.Keys.{Each-map, Key-discrete}
use Rattle.wac_component.proofs.Reading.{interface_at, interface_standing}
use Rattle.wac_component.proofs.Replaced.{Puts, next_same, stands_on}
use Rattle.wac_component.proofs.Replacing.{Puts-replaced}
use Rattle.wac_component.proofs.Walks.{next_stands, no_walk_returns}

-- from no ids no walk leads anywhere
pub reach_nothing : (c : Collection) (k : Key) → ¬ NamesReach c [] k
reach_nothing c k n = elim n.1 [ ]

-- what is put twice at a place is there as the second
set_twice : {A : Type 0} (xs : List A) (i : ℕ) (x y : A) → set (set xs i x) i y ≡ set xs i y
set_twice [] i x y = refl
set_twice (z ∷ xs) zero x y = refl
set_twice {A} (z ∷ xs) (suc i) x y = ap (λ (zs : List A). z ∷ zs) (set_twice xs i x y)

module _ (c : Collection) (p : Id) (sound : IsSound c) (st : Stands c (interface_key p)) where
  abbrev d : Collection
  d = without_content c p

  puts : Puts c d (interface_key p) (interface_entry no_content)
  puts = Puts-replaced c p (interface_entry no_content) st

  -- a walk is one that was there
  walked : (j t : Key) → Stands c j → Reaches d j t → Reaches c j t
  walked j t h stay = stay
  walked j t h (step {j = i} m w) = by_key (Key-discrete j (interface_key p)) (λ g. walked i t g w)
    where
      by_key : Dec (j ≡ interface_key p) → (Stands c i → Reaches c i t) → Reaches c j t
      by_key (yes same) onward = let none = subst (λ o. IsAmong i (optional_keys entry_keys o)) puts.entry (subst (λ x. IsAmong i (next d x)) same m) in elim none [ ]
      by_key (no ne) onward = let n = subst (λ ks. IsAmong i ks) (next_same c d (interface_key p) (interface_entry no_content) puts j h ne) m in step n (onward (next_stands c j i sound h n))

  -- an id that stands, from which no walk leads to the interface
  abbrev pub IsOut : Key → Type 0
  IsOut j = Stands c j × (Reaches c j (interface_key p) → ⊥)

  -- so are those that it names, and others from which none does
  pub old_out : (old : InterfaceContent) → slice_get c.interfaces p.index ≡ Some old → Each IsOut (interface_keys old)
  old_out old was =
      let named : next c (interface_key p) ≡ interface_keys old = ap (optional_keys entry_keys) (interface_at c p old was) in
      each_among IsOut (interface_keys old) (λ j m. (
        among_each (Stands c) j (interface_keys old) m (interface_standing c p old sound st was),
        no_walk_returns c sound (interface_key p) j st (subst (λ (ks : List Key). IsAmong j ks) (sym named) m),
      ))

  pub out_from : (ks : List Key) → AllStand c ks → ¬ NamesReach c ks (interface_key p) → Each IsOut ks
  out_from ks h none = each_among IsOut ks (λ j m. (among_each (Stands c) j ks m h, λ w. none (j, m, w)))

  -- so none does where it was taken out, nor did where it was not
  pub out_acyclic : (ks : List Key) → Each IsOut ks → ¬ NamesReach (without_content c p) ks (interface_key p)
  out_acyclic ks h n = let o = among_each IsOut n.0 ks n.1 h in o.1 (walked n.0 (interface_key p) o.0 n.2)

  pub out_never : (ks : List Key) → Each IsOut ks → ¬ NamesReach c ks (interface_key p)
  out_never ks h n = (among_each IsOut n.0 ks n.1 h).1 n.2

  -- what stood stands
  pub out_stands : (j : Key) → Stands c j → Stands (without_content c p) j
  out_stands j h = stands_on c d (interface_key p) (interface_entry no_content) puts j h

  pub out_stand : (ks : List Key) → Each IsOut ks → AllStand (without_content c p) ks
  out_stand ks h = Each-map IsOut (Stands (without_content c p)) (λ j o. out_stands j o.0) ks h

-- with another interface put back, it is the collection with that in place of the first
pub put_twice : (c : Collection) (p : Id) (new : InterfaceContent) → record (without_content c p) { interfaces = set (without_content c p).interfaces p.index new } ≡ record c { interfaces = set c.interfaces p.index new }
put_twice c p new = ap (λ (is : List InterfaceContent). record c { interfaces = is }) (set_twice c.interfaces p.index no_content new)
