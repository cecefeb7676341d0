-- The ids in an entry, as those in what it imports and those in the rest of it.
use Rattle.std.proofs.Common.{◌↔◌, ◌⊎◌, inl, inr, List, [], ◌∷◌, ◌++◌}
use Rattle.wac_component.specs.Key.{Key, Entry, defined_entry, resource_entry, func_entry, interface_entry, world_entry, module_entry, entry_keys, import_keys, other_keys, use_keys, item_keys, named_keys}
use Rattle.wac_component.specs.Reach.{IsAmong, here, there}

module _ (k : Key) where
  among-parts : (xs ys : List Key) → IsAmong k (xs ++ ys) → IsAmong k xs ⊎ IsAmong k ys
  among-parts [] ys h = inr h
  among-parts (x ∷ xs) ys here = inl here
  among-parts (x ∷ xs) ys (there h) = later (among-parts xs ys h) where
    later : IsAmong k xs ⊎ IsAmong k ys → IsAmong k (x ∷ xs) ⊎ IsAmong k ys
    later (inl p) = inl (there p)
    later (inr p) = inr p

  among-left : (xs ys : List Key) → IsAmong k xs → IsAmong k (xs ++ ys)
  among-left [] ys h = elim h [ ]
  among-left (x ∷ xs) ys here = here
  among-left (x ∷ xs) ys (there h) = there (among-left xs ys h)

  among-right : (xs ys : List Key) → IsAmong k ys → IsAmong k (xs ++ ys)
  among-right [] ys h = h
  among-right (x ∷ xs) ys h = there (among-right xs ys h)

  -- an entry that imports nothing
  alone : (ks : List Key) → IsAmong k ks ↔ (IsAmong k [] ⊎ IsAmong k ks)
  alone ks = ((λ h. inr h), back) where
    back : IsAmong k [] ⊎ IsAmong k ks → IsAmong k ks
    back (inl h) = elim h [ ]
    back (inr h) = h

  -- a middle part apart from the others
  middle : (xs ys zs : List Key) → IsAmong k ((xs ++ ys) ++ zs) ↔ (IsAmong k ys ⊎ IsAmong k (xs ++ zs))
  middle xs ys zs = ((λ h. first (among-parts (xs ++ ys) zs h)), back) where
    second : IsAmong k xs ⊎ IsAmong k ys → IsAmong k ys ⊎ IsAmong k (xs ++ zs)
    second (inl p) = inr (among-left xs zs p)
    second (inr p) = inl p

    first : IsAmong k (xs ++ ys) ⊎ IsAmong k zs → IsAmong k ys ⊎ IsAmong k (xs ++ zs)
    first (inl p) = second (among-parts xs ys p)
    first (inr p) = inr (among-right xs zs p)

    other : IsAmong k xs ⊎ IsAmong k zs → IsAmong k ((xs ++ ys) ++ zs)
    other (inl p) = among-left (xs ++ ys) zs (among-left xs ys p)
    other (inr p) = among-right (xs ++ ys) zs p

    back : IsAmong k ys ⊎ IsAmong k (xs ++ zs) → IsAmong k ((xs ++ ys) ++ zs)
    back (inl p) = among-left (xs ++ ys) zs (among-right xs ys p)
    back (inr p) = other (among-parts xs zs p)

pub imports-apart : (e : Entry) (k : Key) → IsAmong k (entry_keys e) ↔ (IsAmong k (import_keys e) ⊎ IsAmong k (other_keys e))
imports-apart (defined_entry d) k = alone k (entry_keys (defined_entry d))
imports-apart (resource_entry r) k = alone k (entry_keys (resource_entry r))
imports-apart (func_entry f) k = alone k (entry_keys (func_entry f))
imports-apart (interface_entry i) k = alone k (entry_keys (interface_entry i))
imports-apart (world_entry w) k = middle k (named_keys use_keys w.uses) (named_keys item_keys w.imports) (named_keys item_keys w.exports)
imports-apart (module_entry m) k = alone k (entry_keys (module_entry m))
