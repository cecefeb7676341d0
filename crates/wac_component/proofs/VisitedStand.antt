-- In a sound collection each defined type that a visit sees stands.
use Rattle.std.proofs.Common.{◌≡◌, ◌<◌, ℕ, suc, zero, inl, inr, List, [], ◌∷◌, ◌++◌, Option, Some, None, map, slice_get, ap, ◌∙◌, subst, arith}
use Rattle.std.specs.List.{flat_map}
use Rattle.std.specs.Option.{option_map, option_map_or}
use Rattle.std.proofs.lemmas.Option.{slice_get_cases}
use Rattle.wac_model.specs.Text.{Text}
use Rattle.wac_component.specs.Id.{Id}
use Rattle.wac_component.specs.Collection.{Collection, DefinedContent, alias_of, composed}
use Rattle.wac_component.specs.Height.{height, keys_height}
use Rattle.wac_component.specs.Key.{Key, Entry, defined_entry, resource_entry, func_entry, interface_entry, world_entry, module_entry, entries, entry_at, entry_keys, Stands, AllStand, defined_key, func_key, interface_key, world_key, value_keys, item_keys, use_keys, named_keys, optional_keys, defined_keys}
use Rattle.wac_component.specs.Sound.{IsSound}
use Rattle.wac_component.specs.Visits.{own_id, optional_ids, extern_ids, externs_ids, entry_ids, referred, member_ids}
use Rattle.wac_component.specs.declared.items.ValueType.{ValueType}
use Rattle.wac_component.specs.declared.items.ValueType.TheVariants.{Primitive, Borrow, Own, Defined}
use Rattle.wac_component.specs.declared.items.ItemKind.{ItemKind}
use Rattle.wac_component.specs.declared.items.ItemKind.TheVariants.{«Type» as OfType, Func, Instance, Component, Module, Value}
use Rattle.wac_component.specs.declared.items.Type.TheVariants.{Resource as TypeResource, Func as TypeFunc, Value as TypeValue, Interface as TypeInterface, World as TypeWorld, Module as TypeModule}
use Rattle.wac_component.specs.Laws.{VisitsStand}
use Rattle.wac_component.proofs.Keys.{Each-left, Each-right, largest-append}
use Rattle.wac_component.proofs.Lists.{slice_get-map}
use Rattle.wac_component.proofs.Unfolded.{unfolded-entry, entry_below}
use Rattle.wac_component.proofs.Search.{next_at}
use Rattle.wac_component.proofs.VisitLemmas.{entry_ids-local}

module _ (c : Collection) where
  -- the defined types stand
  abbrev AllIds : List Id → Type 0
  AllIds ids = AllStand c (map defined_key ids)

  ids-append : (xs ys : List Id) → AllIds xs → AllIds ys → AllIds (xs ++ ys)
  ids-append [] ys p q = q
  ids-append (x ∷ xs) ys p q = (p.0, ids-append xs ys p.1 q)

  own : (v : ValueType) → AllStand c (value_keys v) → AllIds (own_id v)
  own (Primitive p) h = tt
  own (Borrow r) h = tt
  own (Own r) h = tt
  own (Defined d) h = h

  optional : (o : Option ValueType) → AllStand c (optional_keys value_keys o) → AllIds (optional_ids o)
  optional None h = tt
  optional (Some v) h = own v h

  params : (ps : List (Text × ValueType)) → AllStand c (named_keys value_keys ps) → AllIds (flat_map (λ p. own_id p.1) ps)
  params [] h = tt
  params (p ∷ ps) h = ids-append (own_id p.1) (flat_map (λ q. own_id q.1) ps) (own p.1 (Each-left (Stands c) (value_keys p.1) (named_keys value_keys ps) h)) (params ps (Each-right (Stands c) (value_keys p.1) (named_keys value_keys ps) h))

  members : (vs : List ValueType) → AllStand c (flat_map value_keys vs) → AllIds (flat_map own_id vs)
  members [] h = tt
  members (v ∷ vs) h = ids-append (own_id v) (flat_map own_id vs) (own v (Each-left (Stands c) (value_keys v) (flat_map value_keys vs) h)) (members vs (Each-right (Stands c) (value_keys v) (flat_map value_keys vs) h))

  content : (d : DefinedContent) → AllStand c (defined_keys d) → AllIds (member_ids d)
  content (alias_of of) h = tt
  content (composed label vs) h = members vs h

  -- what is known of ids below a height
  abbrev Known : ℕ → Type 0
  Known n = (k : Key) → Stands c k → height c k < n → AllIds (referred c k)

  extern : (n : ℕ) → Known n → (i : ItemKind) → AllStand c (item_keys i) → keys_height c (item_keys i) < n → AllIds (extern_ids (referred c) i)
  extern n known (OfType (TypeResource r)) h l = tt
  extern n known (OfType (TypeFunc p)) h l = known (func_key p) h.0 (omega (arith, l))
  extern n known (OfType (TypeValue v)) h l = own v h
  extern n known (OfType (TypeInterface p)) h l = known (interface_key p) h.0 (omega (arith, l))
  extern n known (OfType (TypeWorld p)) h l = known (world_key p) h.0 (omega (arith, l))
  extern n known (OfType (TypeModule m)) h l = tt
  extern n known (Func p) h l = known (func_key p) h.0 (omega (arith, l))
  extern n known (Instance p) h l = known (interface_key p) h.0 (omega (arith, l))
  extern n known (Component p) h l = known (world_key p) h.0 (omega (arith, l))
  extern n known (Module m) h l = tt
  extern n known (Value v) h l = own v h

  externs : (n : ℕ) → Known n → (es : List (Text × ItemKind)) → AllStand c (named_keys item_keys es) → keys_height c (named_keys item_keys es) < n → AllIds (externs_ids (referred c) es)
  externs n known [] h l = tt
  externs n known (e ∷ es) h l =
      let heights = largest-append (height c) (item_keys e.1) (named_keys item_keys es) in
      ids-append (extern_ids (referred c) e.1) (externs_ids (referred c) es)
      (extern n known e.1 (Each-left (Stands c) (item_keys e.1) (named_keys item_keys es) h) (omega (arith, heights, l)))
      (externs n known es (Each-right (Stands c) (item_keys e.1) (named_keys item_keys es) h) (omega (arith, heights, l)))

  of_entry : (n : ℕ) → Known n → (e : Entry) → AllStand c (entry_keys e) → keys_height c (entry_keys e) < n → AllIds (entry_ids e (referred c))
  of_entry n known (defined_entry d) h l = tt
  of_entry n known (resource_entry r) h l = tt
  of_entry n known (func_entry f) h l =
      ids-append (flat_map (λ p. own_id p.1) f.params) (optional_ids f.«result»)
      (params f.params (Each-left (Stands c) (named_keys value_keys f.params) (optional_keys value_keys f.«result») h))
      (optional f.«result» (Each-right (Stands c) (named_keys value_keys f.params) (optional_keys value_keys f.«result») h))
  of_entry n known (interface_entry i) h l =
      let heights = largest-append (height c) (named_keys use_keys i.uses) (named_keys item_keys i.exports) in
      externs n known i.exports (Each-right (Stands c) (named_keys use_keys i.uses) (named_keys item_keys i.exports) h) (omega (arith, heights, l))
  of_entry n known (world_entry w) h l =
      let front = Each-left (Stands c) (named_keys use_keys w.uses ++ named_keys item_keys w.imports) (named_keys item_keys w.exports) h in
      let both = largest-append (height c) (named_keys use_keys w.uses ++ named_keys item_keys w.imports) (named_keys item_keys w.exports) in
      let heights = largest-append (height c) (named_keys use_keys w.uses) (named_keys item_keys w.imports) in
      ids-append (externs_ids (referred c) w.imports) (externs_ids (referred c) w.exports)
      (externs n known w.imports (Each-right (Stands c) (named_keys use_keys w.uses) (named_keys item_keys w.imports) front) (omega (arith, both, heights, l)))
      (externs n known w.exports (Each-right (Stands c) (named_keys use_keys w.uses ++ named_keys item_keys w.imports) (named_keys item_keys w.exports) h) (omega (arith, both, l)))
  of_entry n known (module_entry m) h l = tt

  module _ (s : IsSound c) where
    from_entry : (n : ℕ) → Known n → (k : Key) (e : Entry) → Stands c k → height c k < suc n → entry_at c k ≡ Some e → AllIds (referred c k)
    from_entry n known k e st l at =
        let below = entry_below c k e s st at in
        let named : AllStand c (entry_keys e) = subst (λ ks. AllStand c ks) (next_at c k e at) (s.standing k st) in
        rw (unfolded-entry [] entry_ids entry_ids-local c k e s st at) (of_entry n known e named (omega (arith, below, l)))

    known_at : (n : ℕ) → Known n
    known_at zero k st l = absurd (omega (arith, l))
    known_at (suc n) k st l = elim (slice_get_cases (entries c k.sort) k.id.index).1 [
      | inl there ↦ from_entry n (known_at n) k there.0 st l there.2
      | inr past ↦ absurd (omega (arith, past.0, st.1))
    ]

    referred_stand : (k : Key) → Stands c k → AllIds (referred c k)
    referred_stand k st = known_at (suc (height c k)) k st (omega arith)

    member_stand : (d : Id) → Stands c (defined_key d) → AllIds (option_map_or member_ids (slice_get c.defined d.index) [])
    member_stand d st = elim (slice_get_cases c.defined d.index).1 [
      | inl there ↦ rw there.2 (content there.0 (subst (λ ks. AllStand c ks) (next_at c (defined_key d) (defined_entry there.0) (slice_get-map defined_entry c.defined d.index ∙ ap (option_map defined_entry) there.2)) (s.standing (defined_key d) st)))
      | inr past ↦ rw past.1 tt
    ]

pub visited_stand : VisitsStand
visited_stand c s (TypeResource r) h = tt
visited_stand c s (TypeFunc p) h = referred_stand c s (func_key p) h.0
visited_stand c s (TypeValue (Primitive p)) h = tt
visited_stand c s (TypeValue (Borrow r)) h = tt
visited_stand c s (TypeValue (Own r)) h = tt
visited_stand c s (TypeValue (Defined d)) h = (h.0, member_stand c s d h.0)
visited_stand c s (TypeInterface p) h = referred_stand c s (interface_key p) h.0
visited_stand c s (TypeWorld p) h = referred_stand c s (world_key p) h.0
visited_stand c s (TypeModule m) h = tt
