-- What a type is made of: walks along the ids in entries, but for the owners of resources.
use Rattle.std.proofs.Common.{◌≡◌, ◌⊎◌, inl, inr, List, [], ◌∷◌, Option, Some, None, slice_get, refl, ap, sym, subst, ◌∙◌}
use Rattle.std.specs.Option.{option_and_then, option_map, option_map_or}
use Rattle.wac_component.specs.Id.{Id}
use Rattle.wac_component.specs.Collection.{Collection, DefinedContent, alias_of, composed, ResourceContent, AliasContent}
use Rattle.wac_component.specs.Entries.{entry_identifier, identifier_at, owner_at}
use Rattle.wac_component.specs.Key.{Key, Sort, defined_sort, resource_sort, func_sort, interface_sort, world_sort, module_sort, Entry, defined_entry, resource_entry, func_entry, interface_entry, world_entry, module_entry, entry_at, entry_keys, other_keys, optional_keys, value_keys, alias_keys, resource_keys, defined_keys, next, defined_key, resource_key, func_key, interface_key, world_key, module_key, Stands}
use Rattle.wac_component.specs.Open.{open_next, OpenReaches}
use Rattle.wac_component.specs.Open as walk
use Rattle.wac_component.specs.Reach.{IsAmong}
use Rattle.wac_component.specs.Sound.{IsSound}
use Rattle.wac_component.specs.declared.items.ValueType.{ValueType}
use Rattle.wac_component.specs.declared.items.ValueType.TheVariants.{Primitive, Borrow, Own, Defined}
use Rattle.wac_component.proofs.Among.{among_either, among_right, among_single, among_one}
use Rattle.wac_component.proofs.Lists.{slice_get-map}
use Rattle.wac_component.proofs.OpenWalks.{opens_stand}
use Rattle.wac_aggregator_alike.specs.Alike.{made_keys, made_next, IsTypeMadeOf, itself, part}

-- the id is of a defined type or of a resource
abbrev pub is_type_sort : Sort → Type 0
is_type_sort defined_sort = Unit {0}
is_type_sort resource_sort = Unit {0}
is_type_sort s = ⊥

abbrev pub IsTypeKey : Key → Type 0
IsTypeKey k = is_type_sort k.sort

-- the source of a resource, if it is another name of one
abbrev source_keys : Option AliasContent → List Key
source_keys o = option_map_or (λ a. resource_key a.source ∷ []) o []

source_in_alias : {j : Key} (o : Option AliasContent) → IsAmong j (source_keys o) → IsAmong j (optional_keys alias_keys o)
source_in_alias None n = elim n [ ]
source_in_alias (Some a) n = among_right (optional_keys (λ o. interface_key o ∷ []) a.owner) (resource_key a.source ∷ []) n

-- an id that a type is made of is in its entry
pub made_in_open : (c : Collection) (k j : Key) → IsAmong j (made_next c k) → IsAmong j (open_next c k)
made_in_open c k j m = at_entry (entry_at c k) m
  where
    at_entry : (o : Option Entry) → IsAmong j (optional_keys made_keys o) → IsAmong j (optional_keys other_keys o)
    at_entry None n = elim n [ ]
    at_entry (Some (defined_entry d)) n = n
    at_entry (Some (resource_entry r)) n = source_in_alias r.alias n
    at_entry (Some (func_entry f)) n = elim n [ ]
    at_entry (Some (interface_entry i)) n = elim n [ ]
    at_entry (Some (world_entry w)) n = elim n [ ]
    at_entry (Some (module_entry m)) n = elim n [ ]

-- what a type is made of is openly reached from it
pub made_opens : (c : Collection) (k t : Key) → IsTypeMadeOf c k t → OpenReaches c k t
made_opens c k t itself = walk.stay
made_opens c k t (part {j = j} m w) = walk.step (made_in_open c k j m) (made_opens c j t w)

-- and so it stands
pub made_stands : (c : Collection) → IsSound c → (k t : Key) → Stands c k → IsTypeMadeOf c k t → Stands c t
made_stands c s k t st w = opens_stand c s k t st (made_opens c k t w)

-- ---- the entries of types

-- what stands for an entry, if there is one
at_map : {A B : Type 0} (f : A → Entry) (g : Entry → B) (none : B) (xs : List A) (o : Option A) → option_map_or g (option_map f o) none ≡ option_map_or (λ x. g (f x)) o none
at_map f g none xs None = refl
at_map f g none xs (Some x) = refl

module _ (c : Collection) (p : Id) where
  open_defined : open_next c (defined_key p) ≡ option_map_or defined_keys (slice_get c.defined p.index) []
  open_defined = ap (optional_keys other_keys) (slice_get-map defined_entry c.defined p.index) ∙ at_map defined_entry other_keys [] c.defined (slice_get c.defined p.index)

  pub made_defined : made_next c (defined_key p) ≡ option_map_or defined_keys (slice_get c.defined p.index) []
  made_defined = ap (optional_keys made_keys) (slice_get-map defined_entry c.defined p.index) ∙ at_map defined_entry made_keys [] c.defined (slice_get c.defined p.index)

  open_resource : open_next c (resource_key p) ≡ option_map_or resource_keys (slice_get c.resources p.index) []
  open_resource = ap (optional_keys other_keys) (slice_get-map resource_entry c.resources p.index) ∙ at_map resource_entry other_keys [] c.resources (slice_get c.resources p.index)

  pub made_resource : made_next c (resource_key p) ≡ option_map_or (λ (r : ResourceContent). source_keys r.alias) (slice_get c.resources p.index) []
  made_resource = ap (optional_keys made_keys) (slice_get-map resource_entry c.resources p.index) ∙ at_map resource_entry made_keys [] c.resources (slice_get c.resources p.index)

  no_identifier_defined : identifier_at c (defined_key p) ≡ None
  no_identifier_defined = ap (λ o. option_map_or entry_identifier o None) (slice_get-map defined_entry c.defined p.index) ∙ at_map defined_entry entry_identifier None c.defined (slice_get c.defined p.index) ∙ none (slice_get c.defined p.index)
    where
      none : (o : Option DefinedContent) → option_map_or (λ d. entry_identifier (defined_entry d)) o None ≡ None
      none None = refl
      none (Some d) = refl

  no_identifier_resource : identifier_at c (resource_key p) ≡ None
  no_identifier_resource = ap (λ o. option_map_or entry_identifier o None) (slice_get-map resource_entry c.resources p.index) ∙ at_map resource_entry entry_identifier None c.resources (slice_get c.resources p.index) ∙ none (slice_get c.resources p.index)
    where
      none : (o : Option ResourceContent) → option_map_or (λ r. entry_identifier (resource_entry r)) o None ≡ None
      none None = refl
      none (Some r) = refl

-- what a defined type is made of is what it names; what isn't a type is made of nothing
pub made_of_defined : (c : Collection) (p : Id) → next c (defined_key p) ≡ made_next c (defined_key p)
made_of_defined c p = ap (optional_keys entry_keys) (slice_get-map defined_entry c.defined p.index) ∙ at_map defined_entry entry_keys [] c.defined (slice_get c.defined p.index) ∙ sym (made_defined c p)

nothing : {A : Type 0} (f : A → Entry) → ((x : A) → made_keys (f x) ≡ []) → (o : Option A) → optional_keys made_keys (option_map f o) ≡ []
nothing f h None = refl
nothing f h (Some x) = h x

pub made_of_func : (c : Collection) (p : Id) → made_next c (func_key p) ≡ []
made_of_func c p = ap (optional_keys made_keys) (slice_get-map func_entry c.funcs p.index) ∙ nothing func_entry (λ x. refl) (slice_get c.funcs p.index)

pub made_of_interface : (c : Collection) (p : Id) → made_next c (interface_key p) ≡ []
made_of_interface c p = ap (optional_keys made_keys) (slice_get-map interface_entry c.interfaces p.index) ∙ nothing interface_entry (λ x. refl) (slice_get c.interfaces p.index)

pub made_of_world : (c : Collection) (p : Id) → made_next c (world_key p) ≡ []
made_of_world c p = ap (optional_keys made_keys) (slice_get-map world_entry c.worlds p.index) ∙ nothing world_entry (λ x. refl) (slice_get c.worlds p.index)

pub made_of_module : (c : Collection) (p : Id) → made_next c (module_key p) ≡ []
made_of_module c p = ap (optional_keys made_keys) (slice_get-map module_entry c.modules p.index) ∙ nothing module_entry (λ x. refl) (slice_get c.modules p.index)

-- types have no identifiers
pub no_identifier : (c : Collection) (k : Key) → IsTypeKey k → identifier_at c k ≡ None
no_identifier c k h = by_sort k.sort k.id h
  where
    by_sort : (s : Sort) (p : Id) → is_type_sort s → identifier_at c (record { sort = s; id = p }) ≡ None
    by_sort defined_sort p h = no_identifier_defined c p
    by_sort resource_sort p h = no_identifier_resource c p
    by_sort func_sort p h = absurd h
    by_sort interface_sort p h = absurd h
    by_sort world_sort p h = absurd h
    by_sort module_sort p h = absurd h

-- the ids in a value type and in a defined type are of types
value_types : (j : Key) (v : ValueType) → IsAmong j (value_keys v) → IsTypeKey j
value_types j (Primitive p) m = elim m [ ]
value_types j (Borrow r) m = subst IsTypeKey (sym (among_single (resource_key r) m)) tt
value_types j (Own r) m = subst IsTypeKey (sym (among_single (resource_key r) m)) tt
value_types j (Defined d) m = subst IsTypeKey (sym (among_single (defined_key d) m)) tt

defined_types : (j : Key) (d : DefinedContent) → IsAmong j (defined_keys d) → IsTypeKey j
defined_types j (alias_of of) m = value_types j of m
defined_types j (composed label members) m = let found = among_one value_keys members m in value_types j found.0 found.2

source_types : (j : Key) (o : Option AliasContent) → IsAmong j (source_keys o) → IsTypeKey j
source_types j None m = elim m [ ]
source_types j (Some a) m = subst IsTypeKey (sym (among_single (resource_key a.source) m)) tt

-- what an entry is made of are types
made_next_types : (c : Collection) (k j : Key) → IsAmong j (made_next c k) → IsTypeKey j
made_next_types c k j m = at_entry (entry_at c k) m
  where
    at_entry : (o : Option Entry) → IsAmong j (optional_keys made_keys o) → IsTypeKey j
    at_entry None n = elim n [ ]
    at_entry (Some (defined_entry d)) n = defined_types j d n
    at_entry (Some (resource_entry r)) n = source_types j r.alias n
    at_entry (Some (func_entry f)) n = elim n [ ]
    at_entry (Some (interface_entry i)) n = elim n [ ]
    at_entry (Some (world_entry w)) n = elim n [ ]
    at_entry (Some (module_entry m)) n = elim n [ ]

-- what a type is made of is a type, and has no identifier
pub made_types : (c : Collection) (k t : Key) → IsTypeKey k → IsTypeMadeOf c k t → IsTypeKey t
made_types c k t h itself = h
made_types c k t h (part {j = j} m w) = made_types c j t (made_next_types c k j m) w

pub made_unidentified : (c : Collection) (k t : Key) → IsTypeKey k → IsTypeMadeOf c k t → identifier_at c t ≡ None
made_unidentified c k t h w = no_identifier c t (made_types c k t h w)

-- ---- what a type names

-- the entry of a type names types that it is made of, and the owner of a resource
data IsNamedBy (c : Collection) (k j : Key) : Type 0 where
  made : IsAmong j (made_next c k) → IsNamedBy c k j
  owner : (r o : Id) → k ≡ resource_key r → j ≡ interface_key o → owner_at c r ≡ Some o → IsNamedBy c k j

module _ (c : Collection) (j : Key) where
  of_defined : (p : Id) (o : Option DefinedContent) → slice_get c.defined p.index ≡ o → IsAmong j (option_map_or defined_keys o []) → IsNamedBy c (defined_key p) j
  of_defined p None is n = elim n [ ]
  of_defined p (Some d) is n = made (subst (IsAmong j) (sym (made_defined c p ∙ ap (λ (o : Option DefinedContent). option_map_or defined_keys o []) is)) n)

  of_owner : (p : Id) (e : ResourceContent) (a : AliasContent) (q : Option Id) → slice_get c.resources p.index ≡ Some e → e.alias ≡ Some a → a.owner ≡ q → IsAmong j (optional_keys (λ (o : Id). interface_key o ∷ []) q) → IsNamedBy c (resource_key p) j
  of_owner p e a None is alias own n = elim n [ ]
  of_owner p e a (Some o) is alias own n =
      owner p o refl (among_single (interface_key o) n)
      (ap (λ (x : Option ResourceContent). option_and_then (λ (y : ResourceContent). option_and_then (λ (b : AliasContent). b.owner) y.alias) x) is ∙ ap (λ (x : Option AliasContent). option_and_then (λ (b : AliasContent). b.owner) x) alias ∙ own)

  of_alias : (p : Id) (e : ResourceContent) (x : Option AliasContent) → slice_get c.resources p.index ≡ Some e → e.alias ≡ x → IsAmong j (optional_keys alias_keys x) → IsNamedBy c (resource_key p) j
  of_alias p e None is alias n = elim n [ ]
  of_alias p e (Some a) is alias n = elim (among_either (optional_keys (λ (o : Id). interface_key o ∷ []) a.owner) (resource_key a.source ∷ []) n) [
    | inl l ↦ of_owner p e a a.owner is alias refl l
    | inr l ↦ made (subst (IsAmong j) (sym (made_resource c p ∙ ap (λ (o : Option ResourceContent). option_map_or (λ (r : ResourceContent). source_keys r.alias) o []) is ∙ ap source_keys alias)) l)
  ]

  of_resource : (p : Id) (o : Option ResourceContent) → slice_get c.resources p.index ≡ o → IsAmong j (option_map_or resource_keys o []) → IsNamedBy c (resource_key p) j
  of_resource p None is n = elim n [ ]
  of_resource p (Some e) is n = of_alias p e e.alias is refl n

  named_by_sort : (s : Sort) (p : Id) → is_type_sort s → IsAmong j (open_next c (record { sort = s; id = p })) → IsNamedBy c (record { sort = s; id = p }) j
  named_by_sort defined_sort p h n = of_defined p (slice_get c.defined p.index) refl (subst (IsAmong j) (open_defined c p) n)
  named_by_sort resource_sort p h n = of_resource p (slice_get c.resources p.index) refl (subst (IsAmong j) (open_resource c p) n)
  named_by_sort func_sort p h n = absurd h
  named_by_sort interface_sort p h n = absurd h
  named_by_sort world_sort p h n = absurd h
  named_by_sort module_sort p h n = absurd h

-- an open walk from a type stays in what it is made of, or leaves that
-- through the owner of a resource
pub made_or_owned : (c : Collection) (k t : Key) → IsTypeKey k → OpenReaches c k t
    → IsTypeMadeOf c k t ⊎ ((r : Id) × (o : Id) × IsTypeMadeOf c k (resource_key r) × (owner_at c r ≡ Some o) × OpenReaches c (interface_key o) t)
made_or_owned c k t h walk.stay = inl itself
made_or_owned c k t h (walk.step {j = j} m w) = by_name (named_by_sort c j k.sort k.id h m) (λ i. made_or_owned c j t i w)
  where
    onward : IsAmong j (made_next c k)
        → IsTypeMadeOf c j t ⊎ ((r : Id) × (o : Id) × IsTypeMadeOf c j (resource_key r) × (owner_at c r ≡ Some o) × OpenReaches c (interface_key o) t)
        → IsTypeMadeOf c k t ⊎ ((r : Id) × (o : Id) × IsTypeMadeOf c k (resource_key r) × (owner_at c r ≡ Some o) × OpenReaches c (interface_key o) t)
    onward n (inl x) = inl (part n x)
    onward n (inr x) = inr (x.0, x.1, part n x.2, x.3, x.4)

    by_name : IsNamedBy c k j
        → (IsTypeKey j → IsTypeMadeOf c j t ⊎ ((r : Id) × (o : Id) × IsTypeMadeOf c j (resource_key r) × (owner_at c r ≡ Some o) × OpenReaches c (interface_key o) t))
        → IsTypeMadeOf c k t ⊎ ((r : Id) × (o : Id) × IsTypeMadeOf c k (resource_key r) × (owner_at c r ≡ Some o) × OpenReaches c (interface_key o) t)
    by_name (made n) later = onward n (later (made_next_types c k j n))
    by_name (owner r o is at e) later = inr (r, o, subst (λ x. IsTypeMadeOf c k x) is itself, e, subst (λ x. OpenReaches c x t) at w)
