-- What is renamed by what was taken in is taken in.
use Rattle.std.proofs.Common.{◌≡◌, List, [], ◌∷◌, Option, Some, None, suc, refl, ap, sym, subst}
use Rattle.std.specs.Option.{option_map, option_map_or}
use Rattle.wac_model.specs.Text.{Text}
use Rattle.wac_model.specs.ItemTree.{item, type_item}
use Rattle.wac_component.specs.Collection.{DefinedContent, alias_of, composed, AliasContent, FuncContent, UseContent, Collection}
use Rattle.wac_component.specs.Id.{Id}
use Rattle.wac_component.specs.Key.{Key, Each, AllStand, value_keys, type_keys, item_keys, optional_keys, named_keys, use_keys, alias_keys, defined_keys, func_keys, defined_key, resource_key, func_key, interface_key, world_key, module_key}
use Rattle.wac_aggregator_memo.specs.Memo.{memo_of}
use Rattle.wac_aggregator_memo.specs.Renamed.{renamed_id, renamed_value, renamed_type, renamed_item, renamed_alias, renamed_use, renamed_defined, renamed_func, with_values}
use Rattle.wac_component.specs.declared.items.ItemKind.{ItemKind}
use Rattle.wac_component.specs.declared.items.ItemKind.TheVariants.{«Type» as OfType, Func, Instance, Component, Module, Value}
use Rattle.wac_component.specs.declared.items.Type.{«Type» as TypeOf}
use Rattle.wac_component.specs.declared.items.Type.TheVariants.{Resource as TypeResource, Func as TypeFunc, Value as TypeValue, Interface as TypeInterface, World as TypeWorld, Module as TypeModule}
use Rattle.wac_component.specs.declared.items.ValueType.{ValueType}
use Rattle.wac_component.specs.declared.items.ValueType.TheVariants.{Primitive, Borrow, Own, Defined}
use Rattle.wac_component.proofs.Keys.{Each-left, Each-right}
use Rattle.wac_aggregator_copies.proofs.CopyLemmas.{noted_of}
use Rattle.wac_aggregator_copies.proofs.Renamed.{HasOne, mapped_with, listed_with, any_with}
use Rattle.wac_names.specs.Class.{class_of}
use Rattle.wac_aggregator_narrowing.specs.Taking.{AreMapped, IsTakenItem, IsTakenKey, no_keys}
use Rattle.wac_aggregator_narrowing.specs.Taking as mapped
use Rattle.wac_aggregator_narrowing.specs.Values.{IsTakenValue, IfAny, neither, both, AreFuncs, AreDefined}
use Rattle.wac_aggregator_taking.specs.Steps.{AreUsesNoted}
use Rattle.wac_aggregator_taking.specs.Takes.{state_of, MayTake, IsOwnerImported, IsTakenAlias, IsOwnUse}
use Rattle.wac_aggregator_taking.specs.declared.state.Merging.{Merging}
use Rattle.wac_aggregator_taking.proofs.Parts.{item_of_taken, item_of_value, type_of_value, borrow_of_taken, own_of_taken, defined_of_taken, alias_of_taken}

module _ (f : Collection) (a : Merging) (may : MayTake f a) where
  -- what is noted for an id was taken in for it
  pub key_taken : (k own : Key) → k.id.number ≡ f.number → memo_of a.taken k ≡ Some own → IsTakenKey class_of f (state_of a) k own
  key_taken k own number is = record {
    remembered = may.truly.taken k own is number;
    noted = is;
    covered = (may.kept.taken k own is).1;
    closed = λ t n walk at. may.truly.closed k own t n is number walk at;
  }

  -- it has the sort of the id
  pub own_taken : (k : Key) → HasOne f a.taken k → IsTakenKey class_of f (state_of a) k (record { sort = k.sort; id = renamed_id (memo_of a.taken) k })
  own_taken k h =
      let at = noted_of (memo_of a.taken k) h.1 in
      let taken = key_taken k at.0 h.0.0 at.1 in
      let id : renamed_id (memo_of a.taken) k ≡ at.0.id = ap (λ (o : Option Key). option_map_or (λ x. x.id) o k.id) at.1 in
      let same : at.0 ≡ record { sort = k.sort; id = renamed_id (memo_of a.taken) k } = λ j. record { sort = taken.remembered.stands_for.sort j; id = sym id j } in
      subst (λ x. IsTakenKey class_of f (state_of a) k x) same taken

  value_taken : (v : ValueType) → Each (HasOne f a.taken) (value_keys v) → IsTakenValue class_of f (state_of a) v (renamed_value (memo_of a.taken) v)
  value_taken (Primitive p) h = record { stands = tt; same = refl; keys = no_keys }
  value_taken (Borrow r) h = borrow_of_taken f (state_of a) r (renamed_id (memo_of a.taken) (resource_key r)) (own_taken (resource_key r) h.0)
  value_taken (Own r) h = own_of_taken f (state_of a) r (renamed_id (memo_of a.taken) (resource_key r)) (own_taken (resource_key r) h.0)
  value_taken (Defined d) h = defined_of_taken f (state_of a) d (renamed_id (memo_of a.taken) (defined_key d)) (own_taken (defined_key d) h.0)

  type_taken : (t : TypeOf) → Each (HasOne f a.taken) (type_keys t) → IsTakenItem class_of f (state_of a) (OfType t) (OfType (renamed_type (memo_of a.taken) t))
  type_taken (TypeResource r) h = item_of_taken f (state_of a) type_item (resource_key r) (resource_key (renamed_id (memo_of a.taken) (resource_key r))) (OfType (TypeResource r)) (OfType (TypeResource (renamed_id (memo_of a.taken) (resource_key r)))) refl refl refl refl (own_taken (resource_key r) h.0)
  type_taken (TypeFunc r) h = item_of_taken f (state_of a) type_item (func_key r) (func_key (renamed_id (memo_of a.taken) (func_key r))) (OfType (TypeFunc r)) (OfType (TypeFunc (renamed_id (memo_of a.taken) (func_key r)))) refl refl refl refl (own_taken (func_key r) h.0)
  type_taken (TypeValue v) h = type_of_value f (state_of a) v (renamed_value (memo_of a.taken) v) (value_taken v h)
  type_taken (TypeInterface r) h = item_of_taken f (state_of a) type_item (interface_key r) (interface_key (renamed_id (memo_of a.taken) (interface_key r))) (OfType (TypeInterface r)) (OfType (TypeInterface (renamed_id (memo_of a.taken) (interface_key r)))) refl refl refl refl (own_taken (interface_key r) h.0)
  type_taken (TypeWorld r) h = item_of_taken f (state_of a) type_item (world_key r) (world_key (renamed_id (memo_of a.taken) (world_key r))) (OfType (TypeWorld r)) (OfType (TypeWorld (renamed_id (memo_of a.taken) (world_key r)))) refl refl refl refl (own_taken (world_key r) h.0)
  type_taken (TypeModule r) h = item_of_taken f (state_of a) type_item (module_key r) (module_key (renamed_id (memo_of a.taken) (module_key r))) (OfType (TypeModule r)) (OfType (TypeModule (renamed_id (memo_of a.taken) (module_key r)))) refl refl refl refl (own_taken (module_key r) h.0)

  pub item_taken : (k : ItemKind) → Each (HasOne f a.taken) (item_keys k) → IsTakenItem class_of f (state_of a) k (renamed_item (memo_of a.taken) k)
  item_taken (OfType t) h = type_taken t h
  item_taken (Func r) h = item_of_taken f (state_of a) item (func_key r) (func_key (renamed_id (memo_of a.taken) (func_key r))) (Func r) (Func (renamed_id (memo_of a.taken) (func_key r))) refl refl refl refl (own_taken (func_key r) h.0)
  item_taken (Instance r) h = item_of_taken f (state_of a) item (interface_key r) (interface_key (renamed_id (memo_of a.taken) (interface_key r))) (Instance r) (Instance (renamed_id (memo_of a.taken) (interface_key r))) refl refl refl refl (own_taken (interface_key r) h.0)
  item_taken (Component r) h = item_of_taken f (state_of a) item (world_key r) (world_key (renamed_id (memo_of a.taken) (world_key r))) (Component r) (Component (renamed_id (memo_of a.taken) (world_key r))) refl refl refl refl (own_taken (world_key r) h.0)
  item_taken (Module r) h = item_of_taken f (state_of a) item (module_key r) (module_key (renamed_id (memo_of a.taken) (module_key r))) (Module r) (Module (renamed_id (memo_of a.taken) (module_key r))) refl refl refl refl (own_taken (module_key r) h.0)
  item_taken (Value v) h = item_of_value f (state_of a) v (renamed_value (memo_of a.taken) v) (value_taken v h)

  pub items_taken : (es : List (Text × ItemKind)) → Each (HasOne f a.taken) (named_keys item_keys es) → AreMapped (IsTakenItem class_of f (state_of a)) es (with_values (renamed_item (memo_of a.taken)) es)
  items_taken es h = mapped_with (HasOne f a.taken) (IsTakenItem class_of f (state_of a)) (renamed_item (memo_of a.taken)) item_keys item_taken es h

  pub uses_taken : (us : List (Text × UseContent)) → AllStand f (named_keys use_keys us) → AreUsesNoted f (memo_of a.taken) us → AreMapped (IsOwnUse f (state_of a)) us (with_values (renamed_use (memo_of a.taken)) us)
  uses_taken [] st h = mapped.none
  uses_taken ((n, u) ∷ us) st h =
      let own = h 0 n u refl in
      mapped.one (record { name = refl; identified = own.0; interface = own_taken (interface_key u.interface) (st.0, own.1) }) (uses_taken us st.1 (λ i m v at. h (suc i) m v at))

  pub defined_taken : (x : DefinedContent) → Each (HasOne f a.taken) (defined_keys x) → AreDefined (IsTakenValue class_of f (state_of a)) x (renamed_defined (memo_of a.taken) x)
  defined_taken (alias_of v) h = value_taken v h
  defined_taken (composed l vs) h = (refl, listed_with (HasOne f a.taken) (IsTakenValue class_of f (state_of a)) (renamed_value (memo_of a.taken)) value_keys value_taken vs h)

  pub func_taken : (x : FuncContent) → Each (HasOne f a.taken) (func_keys x) → AreFuncs (IsTakenValue class_of f (state_of a)) x (renamed_func (memo_of a.taken) x)
  func_taken x h = record {
    params = mapped_with (HasOne f a.taken) (IsTakenValue class_of f (state_of a)) (renamed_value (memo_of a.taken)) value_keys value_taken x.params (Each-left (HasOne f a.taken) (named_keys value_keys x.params) (optional_keys value_keys x.«result») h);
    «result» = any_with (HasOne f a.taken) (IsTakenValue class_of f (state_of a)) (renamed_value (memo_of a.taken)) value_keys value_taken x.«result» (Each-right (HasOne f a.taken) (named_keys value_keys x.params) (optional_keys value_keys x.«result») h);
    is_async = refl;
  }

  -- of an alias whose owner is imported
  alias_taken : (x : AliasContent) → IsOwnerImported f (state_of a) x.owner → Each (HasOne f a.taken) (alias_keys x) → IsTakenAlias f (state_of a) x (renamed_alias (memo_of a.taken) x)
  alias_taken x imported h =
      let owners = optional_keys (λ (o : Id). interface_key o ∷ []) x.owner in
      alias_of_taken f (state_of a) x (renamed_alias (memo_of a.taken) x)
      (record { taken = any_with (HasOne f a.taken) (λ p q. IsTakenKey class_of f (state_of a) (interface_key p) (interface_key q)) (λ o. renamed_id (memo_of a.taken) (interface_key o)) (λ o. interface_key o ∷ []) (λ o k. own_taken (interface_key o) k.0) x.owner (Each-left (HasOne f a.taken) owners (resource_key x.source ∷ []) h); imported = imported })
      (own_taken (resource_key x.source) (Each-right (HasOne f a.taken) owners (resource_key x.source ∷ []) h).0)

  pub aliases_taken : (o : Option AliasContent) → ((x : AliasContent) → o ≡ Some x → IsOwnerImported f (state_of a) x.owner) → Each (HasOne f a.taken) (optional_keys alias_keys o) → IfAny (IsTakenAlias f (state_of a)) o (option_map (renamed_alias (memo_of a.taken)) o)
  aliases_taken None imported h = neither
  aliases_taken (Some x) imported h = both (alias_taken x (imported x refl) h)
