-- The entry that is put last.
use Rattle.std.proofs.Common.{◌≡◌, ◌<◌, ℕ, ◌+◌, List, ◌∷◌, [], Some, length, length-append, slice_get, ◌⊎◌, inl, inr, ap, sym, subst, ◌∙◌, arith}
use Rattle.wac_component.specs.Collection.{Collection}
use Rattle.wac_component.specs.Key.{Key, Entry, entries, entry_at, Stands}
use Rattle.wac_component.specs.Growth.{with_entry}
use Rattle.wac_component.proofs.Added.{Adds, Adds-with_entry, sort_of}
use Rattle.wac_component.proofs.Keys.{Key-parts}
use Rattle.wac_component.proofs.Lists.{slice_get-last}

-- d has one entry more than c, at k
pub record IsLast (c d : Collection) (e : Entry) (k : Key) : Type 0 where
  pub stands : Stands d k
  pub is_new : ¬ (Stands c k)
  pub at : entry_at d k ≡ Some e
  pub others : (m : Key) → Stands d m → Stands c m ⊎ (m ≡ k)

pub with_entry-last : (c : Collection) (e : Entry) (k : Key) → k.sort ≡ sort_of e → k.id.number ≡ c.number → k.id.index ≡ length (entries c (sort_of e)) → IsLast c (with_entry c e) e k
with_entry-last c e k s n i = record {
  stands = (n ∙ sym adds.number, subst (λ t. k.id.index < length (entries d t)) (sym s) (rw long (omega (arith, i))));
  is_new = λ h. let low : k.id.index < length (entries c (sort_of e)) = subst (λ t. k.id.index < length (entries c t)) s h.1 in omega (arith, low, i);
  at = ap (λ t. slice_get (entries d t) k.id.index) s ∙ ap (slice_get (entries d (sort_of e))) i ∙ ap (λ l. slice_get l (length (entries c (sort_of e)))) adds.list ∙ slice_get-last (entries c (sort_of e)) e;
  others = new_or_old;
}
  where
    d : Collection
    d = with_entry c e

    adds : Adds c (with_entry c e) (sort_of e) e
    adds = Adds-with_entry c e

    long : length (entries d (sort_of e)) ≡ length (entries c (sort_of e)) + 1
    long = ap length adds.list ∙ length-append (entries c (sort_of e)) (e ∷ [])

    last_or_less : (n i : ℕ) → i < n + 1 → (i < n) ⊎ (i ≡ n)
    last_or_less n i h = grind arith

    new_or_old : (m : Key) → Stands d m → Stands c m ⊎ (m ≡ k)
    new_or_old m h = by_sort (adds.others m.sort)
      where
        by_index : m.sort ≡ sort_of e → (m.id.index < length (entries c (sort_of e))) ⊎ (m.id.index ≡ length (entries c (sort_of e))) → Stands c m ⊎ (m ≡ k)
        by_index same (inl low) = inl (h.0 ∙ adds.number, subst (λ t. m.id.index < length (entries c t)) (sym same) low)
        by_index same (inr top) = inr (Key-parts m k (same ∙ sym s) (h.0 ∙ adds.number ∙ sym n) (top ∙ sym i))

        by_sort : (m.sort ≡ sort_of e) ⊎ (entries d m.sort ≡ entries c m.sort) → Stands c m ⊎ (m ≡ k)
        by_sort (inl same) =
            let low : m.id.index < length (entries d (sort_of e)) = subst (λ t. m.id.index < length (entries d t)) same h.1 in
            by_index same (last_or_less (length (entries c (sort_of e))) m.id.index (rw long at low))
        by_sort (inr same) = inl (h.0 ∙ adds.number, subst {A = List Entry} (λ l. m.id.index < length l) same h.1)
