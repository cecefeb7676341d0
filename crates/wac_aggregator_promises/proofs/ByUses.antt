-- A walk from an interface as WIT packages give them to another leads
-- to one that is reached by uses.
use Rattle.std.proofs.Common.{arith, ◌≡◌, ◌⊎◌, inl, inr, refl, subst, sym, ap, ◌∙◌, List, [], ◌∷◌, Option, Some, None, option_map, option_and_then, Contains, slice_get}
use Rattle.std.specs.Option.{option_map_or}
use Rattle.std.proofs.lemmas.List.Elements.{All-contains}
use Rattle.wac_model.specs.Text.{Text}
use Rattle.wac_component.specs.Id.{Id}
use Rattle.wac_component.specs.Collection.{Collection, DefinedContent, alias_of, composed, ResourceContent, AliasContent, FuncContent, UseContent, InterfaceContent}
use Rattle.wac_component.specs.Key.{Key, Sort, defined_sort, resource_sort, func_sort, interface_sort, world_sort, module_sort, defined_entry, resource_entry, func_entry, interface_entry, entry_at, entry_keys, optional_keys, next, interface_key, resource_key, value_keys, item_keys, use_keys, named_keys, defined_keys, resource_keys, alias_keys, func_keys}
use Rattle.wac_component.specs.Reach.{IsAmong, here, there, Reaches, stay, step}
use Rattle.wac_component.specs.declared.items.ValueType.{ValueType}
use Rattle.wac_component.specs.declared.items.ValueType.TheVariants.{Primitive, Borrow, Own, Defined}
use Rattle.wac_component.specs.declared.items.ItemKind.{ItemKind}
use Rattle.wac_component.specs.declared.items.ItemKind.TheVariants.{«Type» as OfType, Func, Instance, Component, Module, Value}
use Rattle.wac_component.specs.declared.items.Type.TheVariants.{Resource as TypeResource, Func as TypeFunc, Value as TypeValue, Interface as TypeInterface, World as TypeWorld, Module as TypeModule}
use Rattle.wac_component.specs.Entries.{uses_at, exports_at, entry_uses, entry_exports, owner_at, HasUse}
use Rattle.wac_component.proofs.Lists.{slice_get-map}
use Rattle.wac_component.proofs.Returns.{Reaches-trans}
use Rattle.wac_component.proofs.Among.{among_either, among_one, among_single}
use Rattle.wac_aggregator_promises.specs.Call.{Call}
use Rattle.wac_aggregator_promises.specs.Entries.{Uses, ReachesByUses}
use Rattle.wac_aggregator_promises.specs.WitList.{IsLeafItem, AreWit, IsMember, used, IsWitList}

-- functions, value types and resources
abbrev pub IsLeafSort : Sort → Type 0
IsLeafSort defined_sort = Unit {0}
IsLeafSort resource_sort = Unit {0}
IsLeafSort func_sort = Unit {0}
IsLeafSort interface_sort = ⊥
IsLeafSort world_sort = ⊥
IsLeafSort module_sort = ⊥

leaf_value : (v : ValueType) (j : Key) → IsAmong j (value_keys v) → IsLeafSort j.sort
leaf_value (Primitive p) j m = elim m [ ]
leaf_value (Borrow r) _ here = tt
leaf_value (Borrow r) j (there m) = elim m [ ]
leaf_value (Own r) _ here = tt
leaf_value (Own r) j (there m) = elim m [ ]
leaf_value (Defined d) _ here = tt
leaf_value (Defined d) j (there m) = elim m [ ]

leaf_defined : (e : DefinedContent) (j : Key) → IsAmong j (defined_keys e) → IsLeafSort j.sort
leaf_defined (alias_of v) j m = leaf_value v j m
leaf_defined (composed l vs) j m = let w = among_one value_keys vs m in leaf_value w.0 j w.2

leaf_func : (e : FuncContent) (j : Key) → IsAmong j (func_keys e) → IsLeafSort j.sort
leaf_func e j m = by_cases (among_either (named_keys value_keys e.params) (optional_keys value_keys e.«result») m)
  where
    at_result : (o : Option ValueType) → IsAmong j (optional_keys value_keys o) → IsLeafSort j.sort
    at_result None n = elim n [ ]
    at_result (Some v) n = leaf_value v j n

    by_cases : IsAmong j (named_keys value_keys e.params) ⊎ IsAmong j (optional_keys value_keys e.«result») → IsLeafSort j.sort
    by_cases (inl n) = let w = among_one (λ (p : Text × ValueType). value_keys p.1) e.params n in leaf_value w.0.1 j w.2
    by_cases (inr n) = at_result e.«result» n

-- the owner that the content of a resource names
abbrev pub content_owner : ResourceContent → Option Id
content_owner e = option_and_then (λ a. a.owner) e.alias

leaf_resource : (e : ResourceContent) (j : Key) → IsAmong j (resource_keys e) → IsLeafSort j.sort ⊎ ((o : Id) × (content_owner e ≡ Some o) × (j ≡ interface_key o))
leaf_resource e j m = at_alias e.alias m
  where
    at_owner : (o : Option Id) → IsAmong j (optional_keys (λ p. interface_key p ∷ []) o) → (p : Id) × (o ≡ Some p) × (j ≡ interface_key p)
    at_owner None n = elim n [ ]
    at_owner (Some p) n = (p, refl, among_single (interface_key p) n)

    at_source : (s : Id) → IsAmong j (resource_key s ∷ []) → IsLeafSort j.sort
    at_source s n = subst (λ (x : Key). IsLeafSort x.sort) (sym (among_single (resource_key s) n)) tt

    parts : (a : AliasContent) → IsAmong j (optional_keys (λ p. interface_key p ∷ []) a.owner) ⊎ IsAmong j (resource_key a.source ∷ []) → IsLeafSort j.sort ⊎ ((o : Id) × (a.owner ≡ Some o) × (j ≡ interface_key o))
    parts a (inl n) = inr (at_owner a.owner n)
    parts a (inr n) = inl (at_source a.source n)

    at_alias : (o : Option AliasContent) → IsAmong j (optional_keys alias_keys o) → IsLeafSort j.sort ⊎ ((p : Id) × (option_and_then (λ a. a.owner) o ≡ Some p) × (j ≡ interface_key p))
    at_alias None n = elim n [ ]
    at_alias (Some a) n = parts a (among_either (optional_keys (λ p. interface_key p ∷ []) a.owner) (resource_key a.source ∷ []) n)

-- what a function, a value type or a resource names is one of these, or its owner
record IsOwner (c : Collection) (k j : Key) : Type 0 where
  owner : Id
  is_resource : k.sort ≡ resource_sort
  owned : owner_at c k.id ≡ Some owner
  is_owner : j ≡ interface_key owner

leaf_next : (c : Collection) (s : Sort) (p : Id) (j : Key) → IsLeafSort s → IsAmong j (next c (record { sort = s; id = p })) → IsLeafSort j.sort ⊎ IsOwner c (record { sort = s; id = p }) j
leaf_next c defined_sort p j l m = inl (at_entry (slice_get c.defined p.index) (subst (λ o. IsAmong j (optional_keys entry_keys o)) (slice_get-map defined_entry c.defined p.index) m))
  where
    at_entry : (o : Option DefinedContent) → IsAmong j (optional_keys entry_keys (option_map defined_entry o)) → IsLeafSort j.sort
    at_entry None n = elim n [ ]
    at_entry (Some e) n = leaf_defined e j n
leaf_next c resource_sort p j l m = at_entry (slice_get c.resources p.index) refl (subst (λ o. IsAmong j (optional_keys entry_keys o)) (slice_get-map resource_entry c.resources p.index) m)
  where
    owned : (e : ResourceContent) → slice_get c.resources p.index ≡ Some e → IsLeafSort j.sort ⊎ ((o : Id) × (content_owner e ≡ Some o) × (j ≡ interface_key o)) → IsLeafSort j.sort ⊎ IsOwner c (resource_key p) j
    owned e is (inl q) = inl q
    owned e is (inr q) = inr record { owner = q.0; is_resource = refl; owned = ap (option_and_then content_owner) is ∙ q.1; is_owner = q.2 }

    at_entry : (o : Option ResourceContent) → slice_get c.resources p.index ≡ o → IsAmong j (optional_keys entry_keys (option_map resource_entry o)) → IsLeafSort j.sort ⊎ IsOwner c (resource_key p) j
    at_entry None is n = elim n [ ]
    at_entry (Some e) is n = owned e is (leaf_resource e j n)
leaf_next c func_sort p j l m = inl (at_entry (slice_get c.funcs p.index) (subst (λ o. IsAmong j (optional_keys entry_keys o)) (slice_get-map func_entry c.funcs p.index) m))
  where
    at_entry : (o : Option FuncContent) → IsAmong j (optional_keys entry_keys (option_map func_entry o)) → IsLeafSort j.sort
    at_entry None n = elim n [ ]
    at_entry (Some e) n = leaf_func e j n
leaf_next c interface_sort p j l m = absurd l
leaf_next c world_sort p j l m = absurd l
leaf_next c module_sort p j l m = absurd l

-- what an interface names: what it uses, and what its exports name
record IsExported (c : Collection) (i : Id) (j : Key) : Type 0 where
  export : Text × ItemKind
  among : Contains (exports_at c (interface_key i)) export
  named : IsAmong j (item_keys export.1)

interface_next : (c : Collection) (i : Id) (j : Key) → IsAmong j (next c (interface_key i)) → ((o : Id) × Uses c i o × (j ≡ interface_key o)) ⊎ IsExported c i j
interface_next c i j m = at_entry (slice_get c.interfaces i.index) (slice_get-map interface_entry c.interfaces i.index) (subst (λ o. IsAmong j (optional_keys entry_keys o)) (slice_get-map interface_entry c.interfaces i.index) m)
  where
    the_use : (u : UseContent) → IsAmong j (use_keys u) → j ≡ interface_key u.interface
    the_use u n = among_single (interface_key u.interface) n

    parts : (e : InterfaceContent) → entry_at c (interface_key i) ≡ Some (interface_entry e)
        → IsAmong j (named_keys use_keys e.uses) ⊎ IsAmong j (named_keys item_keys e.exports) → ((o : Id) × Uses c i o × (j ≡ interface_key o)) ⊎ IsExported c i j
    parts e is (inl n) =
        let w = among_one (λ (u : Text × UseContent). use_keys u.1) e.uses n in
        inl (w.0.1.interface, record { name = w.0.0; content = w.0.1; has = subst (λ (l : List (Text × UseContent)). Contains l w.0) (sym (ap (λ o. option_map_or entry_uses o []) is)) w.1; is_of = refl }, the_use w.0.1 w.2)
    parts e is (inr n) =
        let w = among_one (λ (x : Text × ItemKind). item_keys x.1) e.exports n in
        inr record { export = w.0; among = subst (λ (l : List (Text × ItemKind)). Contains l w.0) (sym (ap (λ o. option_map_or entry_exports o []) is)) w.1; named = w.2 }

    at_entry : (o : Option InterfaceContent) → entry_at c (interface_key i) ≡ option_map interface_entry o → IsAmong j (optional_keys entry_keys (option_map interface_entry o)) → ((p : Id) × Uses c i p × (j ≡ interface_key p)) ⊎ IsExported c i j
    at_entry None is n = elim n [ ]
    at_entry (Some e) is n = parts e is (among_either (named_keys use_keys e.uses) (named_keys item_keys e.exports) n)

pub leaf_item : (x : ItemKind) (j : Key) → IsLeafItem x → IsAmong j (item_keys x) → IsLeafSort j.sort
leaf_item (Func f) _ l here = tt
leaf_item (Func f) j l (there m) = elim m [ ]
leaf_item (OfType (TypeValue v)) j l m = leaf_value v j m
leaf_item (OfType (TypeResource r)) _ l here = tt
leaf_item (OfType (TypeResource r)) j l (there m) = elim m [ ]
leaf_item (OfType (TypeFunc f)) j l m = absurd l
leaf_item (OfType (TypeInterface f)) j l m = absurd l
leaf_item (OfType (TypeWorld f)) j l m = absurd l
leaf_item (OfType (TypeModule f)) j l m = absurd l
leaf_item (Instance f) j l m = absurd l
leaf_item (Component f) j l m = absurd l
leaf_item (Module f) j l m = absurd l
leaf_item (Value f) j l m = absurd l

-- the entry is the interface itself, or a leaf that it reaches
pub data IsSelfOrLeaf (c : Collection) (i : Id) (k : Key) : Type 0 where
  itself : k ≡ interface_key i → IsSelfOrLeaf c i k
  leaf_below : IsLeafSort k.sort → Reaches c (interface_key i) k → IsSelfOrLeaf c i k

pub ByUses-trans : {c : Collection} {i j k : Id} → ReachesByUses c i j → ReachesByUses c j k → ReachesByUses c i k
ByUses-trans ReachesByUses.stay w = w
ByUses-trans (ReachesByUses.step u v) w = ReachesByUses.step u (ByUses-trans v w)

pub wit_by_uses : (c : Collection) (P : Id → Type 0) → AreWit c P → {i j : Id} → P i → ReachesByUses c i j → P j
wit_by_uses c P wit m ReachesByUses.stay = m
wit_by_uses c P wit m (ReachesByUses.step {i = i} {j = j} u w) = wit_by_uses c P wit (wit.uses i j m u) w

-- the members of a WIT list are such interfaces
pub wit_members : (calls : List Call) (c : Collection) → IsWitList calls → AreWit c (IsMember calls c)
wit_members calls c wit = record { uses = λ i j m u. used m u; identified = λ i m. wit.identified c i m; exports = λ i m. wit.exports c i m; owners = λ i r o m w owned. wit.owners c i r o m w owned }

pub member_by_uses : {calls : List Call} {c : Collection} {i j : Id} → IsMember calls c i → ReachesByUses c i j → IsMember calls c j
member_by_uses m ReachesByUses.stay = m
member_by_uses m (ReachesByUses.step u w) = member_by_uses (used m u) w

-- functions, value types and resources use nothing
pub leaf_uses : (c : Collection) (s : Sort) (p : Id) → IsLeafSort s → uses_at c (record { sort = s; id = p }) ≡ []
leaf_uses c defined_sort p l = ap (λ o. option_map_or entry_uses o []) (slice_get-map defined_entry c.defined p.index) ∙ at_entry (slice_get c.defined p.index)
  where
    at_entry : (o : Option DefinedContent) → option_map_or entry_uses (option_map defined_entry o) [] ≡ []
    at_entry None = refl
    at_entry (Some e) = refl
leaf_uses c resource_sort p l = ap (λ o. option_map_or entry_uses o []) (slice_get-map resource_entry c.resources p.index) ∙ at_entry (slice_get c.resources p.index)
  where
    at_entry : (o : Option ResourceContent) → option_map_or entry_uses (option_map resource_entry o) [] ≡ []
    at_entry None = refl
    at_entry (Some e) = refl
leaf_uses c func_sort p l = ap (λ o. option_map_or entry_uses o []) (slice_get-map func_entry c.funcs p.index) ∙ at_entry (slice_get c.funcs p.index)
  where
    at_entry : (o : Option FuncContent) → option_map_or entry_uses (option_map func_entry o) [] ≡ []
    at_entry None = refl
    at_entry (Some e) = refl
leaf_uses c interface_sort p l = absurd l
leaf_uses c world_sort p l = absurd l
leaf_uses c module_sort p l = absurd l

module _ (c : Collection) (P : Id → Type 0) (wit : AreWit c P) where
  -- one step further it is below an interface that is reached by uses
  onward : (i : Id) (k j : Key) → P i → IsSelfOrLeaf c i k → IsAmong j (next c k) → (o : Id) × ReachesByUses c i o × IsSelfOrLeaf c o j
  onward i k j m (itself e) n = by_cases (interface_next c i j n')
    where
      n' : IsAmong j (next c (interface_key i))
      n' = subst (λ (x : Key). IsAmong j (next c x)) e n

      by_cases : ((o : Id) × Uses c i o × (j ≡ interface_key o)) ⊎ IsExported c i j → (o : Id) × ReachesByUses c i o × IsSelfOrLeaf c o j
      by_cases (inl u) = (u.0, ReachesByUses.step u.1 ReachesByUses.stay, itself u.2)
      by_cases (inr x) =
          let l = All-contains (λ (e : Text × ItemKind). IsLeafItem e.1) (exports_at c (interface_key i)) x.export (wit.exports i m) x.among in
          (i, ReachesByUses.stay, leaf_below (leaf_item x.export.1 j l x.named) (step n' stay))
  onward i k j m (leaf_below l r) n = by_cases (leaf_next c k.sort k.id j l n)
    where
      by_cases : IsLeafSort j.sort ⊎ IsOwner c k j → (o : Id) × ReachesByUses c i o × IsSelfOrLeaf c o j
      by_cases (inl q) = (i, ReachesByUses.stay, leaf_below q (Reaches-trans c (interface_key i) k j r (step n stay)))
      by_cases (inr q) =
          let at : k ≡ resource_key k.id = λ z. record { sort = q.is_resource z; id = k.id } in
          (q.owner, wit.owners i k.id q.owner m (subst (λ (x : Key). Reaches c (interface_key i) x) at r) q.owned, itself q.is_owner)

  at_end : (i q : Id) (k : Key) → IsSelfOrLeaf c i k → k ≡ interface_key q → ReachesByUses c i q
  at_end i q k (itself e) f =
      let same : i ≡ q = ap (λ (x : Key). x.id) (sym e ∙ f) in
      subst (λ (x : Id). ReachesByUses c i x) same ReachesByUses.stay
  at_end i q k (leaf_below l r) f = absurd (subst (λ (x : Key). IsLeafSort x.sort) f l)

  walk_by_uses : (i q : Id) (k t : Key) → P i → IsSelfOrLeaf c i k → Reaches c k t → t ≡ interface_key q → ReachesByUses c i q
  walk_by_uses i q k t m b stay e = at_end i q t b e
  walk_by_uses i q k t m b (step {j = j} n w) e =
      let o = onward i k j m b n in
      ByUses-trans o.1 (walk_by_uses o.0 q j t (wit_by_uses c P wit m o.1) o.2 w e)

  pub by_uses : (i q : Id) → P i → Reaches c (interface_key i) (interface_key q) → ReachesByUses c i q
  by_uses i q m w = walk_by_uses i q (interface_key i) (interface_key q) m (itself refl) w refl

  -- such a walk passes through interfaces and leaves alone
  pub reached_with_uses : (i : Id) (k t : Key) → P i → IsSelfOrLeaf c i k → Reaches c k t → (o : Id) × ReachesByUses c i o × IsSelfOrLeaf c o t
  reached_with_uses i k t m b stay = (i, ReachesByUses.stay, b)
  reached_with_uses i k t m b (step {j = j} n w) =
      let o = onward i k j m b n in
      let r = reached_with_uses o.0 j t (wit_by_uses c P wit m o.1) o.2 w in
      (r.0, ByUses-trans o.1 r.1, r.2)

  pub start_below : (i : Id) → IsSelfOrLeaf c i (interface_key i)
  start_below i = itself refl

  -- what is used in an entry below a member is used by the member
  pub user_below : (i : Id) (k : Key) (name : Text) (u : UseContent) → IsSelfOrLeaf c i k → HasUse c k name u → k ≡ interface_key i
  user_below i k name u (itself e) h = e
  user_below i k name u (leaf_below l r) h = absurd (omega (arith, (subst (λ (us : List (Text × UseContent)). Contains us (name, u)) (leaf_uses c k.sort k.id l) h).1))
