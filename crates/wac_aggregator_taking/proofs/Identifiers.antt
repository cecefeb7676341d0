-- An id with an identifier is one of an interface.
use Rattle.std.proofs.Common.{◌≡◌, Option, Some, None, slice_get, refl, ap, sym, ◌∙◌}
use Rattle.std.specs.Option.{option_and_then, option_map, option_map_or}
use Rattle.wac_model.specs.Text.{Text}
use Rattle.wac_component.specs.Collection.{Collection, InterfaceContent}
use Rattle.wac_component.specs.Entries.{entry_identifier, identifier_at}
use Rattle.wac_component.specs.Id.{Id}
use Rattle.wac_component.specs.Implicit.{identifier}
use Rattle.wac_component.specs.Key.{Key, Sort, Entry, defined_sort, resource_sort, func_sort, interface_sort, world_sort, module_sort, defined_entry, resource_entry, func_entry, interface_entry, world_entry, module_entry, interface_key}
use Rattle.wac_component.proofs.Lists.{slice_get-map}
use Rattle.wac_names.specs.Class.{Class, class_of}

-- what says nothing of an identifier
silent : {A : Type 0} (g : A → Entry) → ((x : A) → entry_identifier (g x) ≡ None) → (o : Option A) (n : Text) → option_map_or entry_identifier (option_map g o) None ≡ Some n → ⊥
silent g none None n h = let no : None ≡ Some n = h in cc
silent g none (Some x) n h = let no : None ≡ Some n = sym (none x) ∙ h in cc

of_interface : (o : Option InterfaceContent) (n : Text) → option_map_or entry_identifier (option_map interface_entry o) None ≡ Some n → option_and_then (λ e. e.id) o ≡ Some n
of_interface None n h = absurd (let no : None ≡ Some n = h in cc)
of_interface (Some x) n h = h

by_sort : (c : Collection) (s : Sort) (i : Id) (n : Text) → identifier_at c (record { sort = s; id = i }) ≡ Some n → (s ≡ interface_sort) × (identifier c i ≡ Some n)
by_sort c interface_sort i n h = (refl, of_interface (slice_get c.interfaces i.index) n (ap (λ o. option_map_or entry_identifier o None) (sym (slice_get-map interface_entry c.interfaces i.index)) ∙ h))
by_sort c defined_sort i n h = absurd (silent defined_entry (λ x. refl) (slice_get c.defined i.index) n (ap (λ o. option_map_or entry_identifier o None) (sym (slice_get-map defined_entry c.defined i.index)) ∙ h))
by_sort c resource_sort i n h = absurd (silent resource_entry (λ x. refl) (slice_get c.resources i.index) n (ap (λ o. option_map_or entry_identifier o None) (sym (slice_get-map resource_entry c.resources i.index)) ∙ h))
by_sort c func_sort i n h = absurd (silent func_entry (λ x. refl) (slice_get c.funcs i.index) n (ap (λ o. option_map_or entry_identifier o None) (sym (slice_get-map func_entry c.funcs i.index)) ∙ h))
by_sort c world_sort i n h = absurd (silent world_entry (λ x. refl) (slice_get c.worlds i.index) n (ap (λ o. option_map_or entry_identifier o None) (sym (slice_get-map world_entry c.worlds i.index)) ∙ h))
by_sort c module_sort i n h = absurd (silent module_entry (λ x. refl) (slice_get c.modules i.index) n (ap (λ o. option_map_or entry_identifier o None) (sym (slice_get-map module_entry c.modules i.index)) ∙ h))

module _ (c : Collection) (k : Key) (n : Text) (h : identifier_at c k ≡ Some n) where
  pub is_interface : k ≡ interface_key k.id
  is_interface = ap (λ s. record { sort = s; id = k.id }) (by_sort c k.sort k.id n h).0

  pub has_identifier : identifier c k.id ≡ Some n
  has_identifier = (by_sort c k.sort k.id n h).1

-- and the other way round
pub identifier_of : (c : Collection) (i : Id) (n : Text) → identifier c i ≡ Some n → identifier_at c (interface_key i) ≡ Some n
identifier_of c i n h = ap (λ o. option_map_or entry_identifier o None) (slice_get-map interface_entry c.interfaces i.index) ∙ back (slice_get c.interfaces i.index) h
  where
    back : (o : Option InterfaceContent) → option_and_then (λ e. e.id) o ≡ Some n → option_map_or entry_identifier (option_map interface_entry o) None ≡ Some n
    back None h = absurd (let no : None ≡ Some n = h in cc)
    back (Some x) h = h

-- ---- classes of identifiers

-- what has a class is there
pub identified_by : (o : Option Text) (q : Class) → Some q ≡ option_map class_of o → (n : Text) × (o ≡ Some n) × (q ≡ class_of n)
identified_by None q h = absurd (cc)
identified_by (Some n) q h = let same : q ≡ class_of n = cc in (n, refl, same)

-- what has none isn't
pub unidentified : (o : Option Text) → None ≡ option_map class_of o → o ≡ None
unidentified None h = refl
unidentified (Some n) h = absurd (cc)
