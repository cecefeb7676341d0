-- What is renamed by the copies of what it names is a copy.
use Rattle.std.proofs.Common.{◌≡◌, List, [], ◌∷◌, Option, Some, None, map, refl, ap, sym, subst, ◌∙◌}
use Rattle.std.specs.List.{flat_map}
use Rattle.std.specs.Option.{option_map, option_map_or}
use Rattle.wac_model.specs.Text.{Text}
use Rattle.wac_model.specs.ItemTree.{item, type_item}
use Rattle.wac_component.specs.Collection.{Collection, DefinedContent, alias_of, composed, AliasContent, FuncContent, UseContent}
use Rattle.wac_aggregator_memo.specs.EntryOrder.{HasOwn}
use Rattle.wac_component.specs.Id.{Id}
use Rattle.wac_component.specs.Key.{Key, Each, Stands, AllStand, value_keys, type_keys, item_keys, optional_keys, named_keys, use_keys, alias_keys, defined_keys, func_keys, defined_key, resource_key, func_key, interface_key, world_key, module_key}
use Rattle.wac_aggregator_memo.specs.Memo.{memo_of}
use Rattle.wac_aggregator_memo.specs.Renamed.{renamed_id, renamed_value, renamed_type, renamed_item, renamed_alias, renamed_use, renamed_defined, renamed_func, with_values}
use Rattle.wac_component.specs.declared.items.ItemKind.{ItemKind}
use Rattle.wac_component.specs.declared.items.ItemKind.TheVariants.{«Type» as OfType, Func, Instance, Component, Module, Value}
use Rattle.wac_component.specs.declared.items.Type.{«Type» as TypeOf}
use Rattle.wac_component.specs.declared.items.Type.TheVariants.{Resource as TypeResource, Func as TypeFunc, Value as TypeValue, Interface as TypeInterface, World as TypeWorld, Module as TypeModule}
use Rattle.wac_component.specs.declared.items.ValueType.{ValueType}
use Rattle.wac_component.specs.declared.items.ValueType.TheVariants.{Primitive, Borrow, Own, Defined}
use Rattle.wac_aggregator_memo.specs.declared.memo.Memo.{Memo}
use Rattle.wac_component.proofs.Keys.{Each-left, Each-right}
use Rattle.wac_aggregator_narrowing.specs.State.{State}
use Rattle.wac_aggregator_narrowing.specs.Taking.{AreMapped, IsCopiedItem, IsCopiedKey, no_keys}
use Rattle.wac_aggregator_narrowing.specs.Taking as mapped
use Rattle.wac_aggregator_narrowing.specs.Values.{IsCopiedValue, AreValuesPaired, IfAny, neither, both, AreFuncs, AreDefined}
use Rattle.wac_aggregator_narrowing.specs.Values as listed
use Rattle.wac_aggregator_copies.specs.Copies.{IsState, IsCopiedAlias, IsCopiedUse}
use Rattle.wac_aggregator_copies.proofs.CopyLemmas.{noted_of}
use Rattle.wac_aggregator_copies.proofs.Parts.{item_of_copy, item_of_value, type_of_value, borrow_of_copy, own_of_copy, defined_of_copy, alias_of_copies}

module _ {V W : Type 0} (P : Key → Type 0) (R : V → W → Type 0) (g : V → W) (keys : V → List Key) (one : (v : V) → Each P (keys v) → R v (g v)) where
  pub mapped_with : (es : List (Text × V)) → Each P (named_keys keys es) → AreMapped R es (with_values g es)
  mapped_with [] h = mapped.none
  mapped_with (e ∷ es) h = mapped.one (one e.1 (Each-left P (keys e.1) (named_keys keys es) h)) (mapped_with es (Each-right P (keys e.1) (named_keys keys es) h))

  pub listed_with : (vs : List V) → Each P (flat_map keys vs) → AreValuesPaired R vs (map g vs)
  listed_with [] h = listed.none
  listed_with (v ∷ vs) h = listed.one (one v (Each-left P (keys v) (flat_map keys vs) h)) (listed_with vs (Each-right P (keys v) (flat_map keys vs) h))

  pub any_with : (o : Option V) → Each P (optional_keys keys o) → IfAny R o (option_map g o)
  any_with None h = neither
  any_with (Some v) h = both (one v h)

-- an id that stands, and has a copy
abbrev pub HasOne : Collection → Memo → Key → Type 0
HasOne f m k = Stands f k × HasOwn (memo_of m) k

pub each_both : (f : Collection) (m : Memo) (ks : List Key) → AllStand f ks → Each (HasOwn (memo_of m)) ks → Each (HasOne f m) ks
each_both f m [] p q = tt
each_both f m (k ∷ ks) p q = ((p.0, q.0), each_both f m ks p.1 q.1)

module _ (f c : Collection) (m : Memo) (s : State) (is : IsState f c m s) where
  -- the copy of an id, of the sort of the id
  copy_of : (k : Key) → HasOne f m k → IsCopiedKey f s k (record { sort = k.sort; id = renamed_id (memo_of m) k })
  copy_of k h =
      let at = noted_of (memo_of m k) h.1 in
      let noted : s.copies k ≡ Some at.0 = (λ j. is.copies j k) ∙ at.1 in
      let copy = is.truly.copies k at.0 noted h.0.0 in
      let id : renamed_id (memo_of m) k ≡ at.0.id = ap (λ (o : Option Key). option_map_or (λ x. x.id) o k.id) at.1 in
      let same : at.0 ≡ record { sort = k.sort; id = renamed_id (memo_of m) k } = λ j. record { sort = copy.sort j; id = sym id j } in
      subst (λ x. IsCopiedKey f s k x) same (record { copy = copy; noted = noted })

  pub value_renamed : (v : ValueType) → Each (HasOne f m) (value_keys v) → IsCopiedValue f s v (renamed_value (memo_of m) v)
  value_renamed (Primitive p) h = record { stands = tt; apart = tt; keys = no_keys; same = refl }
  value_renamed (Borrow r) h = borrow_of_copy f s r (renamed_id (memo_of m) (resource_key r)) (copy_of (resource_key r) h.0)
  value_renamed (Own r) h = own_of_copy f s r (renamed_id (memo_of m) (resource_key r)) (copy_of (resource_key r) h.0)
  value_renamed (Defined d) h = defined_of_copy f s d (renamed_id (memo_of m) (defined_key d)) (copy_of (defined_key d) h.0)

  type_renamed : (t : TypeOf) → Each (HasOne f m) (type_keys t) → IsCopiedItem f s (OfType t) (OfType (renamed_type (memo_of m) t))
  type_renamed (TypeResource r) h = item_of_copy f s type_item (resource_key r) (resource_key (renamed_id (memo_of m) (resource_key r))) (OfType (TypeResource r)) (OfType (TypeResource (renamed_id (memo_of m) (resource_key r)))) refl refl refl refl (copy_of (resource_key r) h.0)
  type_renamed (TypeFunc r) h = item_of_copy f s type_item (func_key r) (func_key (renamed_id (memo_of m) (func_key r))) (OfType (TypeFunc r)) (OfType (TypeFunc (renamed_id (memo_of m) (func_key r)))) refl refl refl refl (copy_of (func_key r) h.0)
  type_renamed (TypeValue v) h = type_of_value f s v (renamed_value (memo_of m) v) (value_renamed v h)
  type_renamed (TypeInterface r) h = item_of_copy f s type_item (interface_key r) (interface_key (renamed_id (memo_of m) (interface_key r))) (OfType (TypeInterface r)) (OfType (TypeInterface (renamed_id (memo_of m) (interface_key r)))) refl refl refl refl (copy_of (interface_key r) h.0)
  type_renamed (TypeWorld r) h = item_of_copy f s type_item (world_key r) (world_key (renamed_id (memo_of m) (world_key r))) (OfType (TypeWorld r)) (OfType (TypeWorld (renamed_id (memo_of m) (world_key r)))) refl refl refl refl (copy_of (world_key r) h.0)
  type_renamed (TypeModule r) h = item_of_copy f s type_item (module_key r) (module_key (renamed_id (memo_of m) (module_key r))) (OfType (TypeModule r)) (OfType (TypeModule (renamed_id (memo_of m) (module_key r)))) refl refl refl refl (copy_of (module_key r) h.0)

  pub item_renamed : (k : ItemKind) → Each (HasOne f m) (item_keys k) → IsCopiedItem f s k (renamed_item (memo_of m) k)
  item_renamed (OfType t) h = type_renamed t h
  item_renamed (Func r) h = item_of_copy f s item (func_key r) (func_key (renamed_id (memo_of m) (func_key r))) (Func r) (Func (renamed_id (memo_of m) (func_key r))) refl refl refl refl (copy_of (func_key r) h.0)
  item_renamed (Instance r) h = item_of_copy f s item (interface_key r) (interface_key (renamed_id (memo_of m) (interface_key r))) (Instance r) (Instance (renamed_id (memo_of m) (interface_key r))) refl refl refl refl (copy_of (interface_key r) h.0)
  item_renamed (Component r) h = item_of_copy f s item (world_key r) (world_key (renamed_id (memo_of m) (world_key r))) (Component r) (Component (renamed_id (memo_of m) (world_key r))) refl refl refl refl (copy_of (world_key r) h.0)
  item_renamed (Module r) h = item_of_copy f s item (module_key r) (module_key (renamed_id (memo_of m) (module_key r))) (Module r) (Module (renamed_id (memo_of m) (module_key r))) refl refl refl refl (copy_of (module_key r) h.0)
  item_renamed (Value v) h = item_of_value f s v (renamed_value (memo_of m) v) (value_renamed v h)

  pub items_renamed : (es : List (Text × ItemKind)) → Each (HasOne f m) (named_keys item_keys es) → AreMapped (IsCopiedItem f s) es (with_values (renamed_item (memo_of m)) es)
  items_renamed es h = mapped_with (HasOne f m) (IsCopiedItem f s) (renamed_item (memo_of m)) item_keys item_renamed es h

  use_renamed : (u : UseContent) → Each (HasOne f m) (use_keys u) → IsCopiedUse f s u (renamed_use (memo_of m) u)
  use_renamed u h = record { name = refl; interface = copy_of (interface_key u.interface) h.0 }

  pub uses_renamed : (es : List (Text × UseContent)) → Each (HasOne f m) (named_keys use_keys es) → AreMapped (IsCopiedUse f s) es (with_values (renamed_use (memo_of m)) es)
  uses_renamed es h = mapped_with (HasOne f m) (IsCopiedUse f s) (renamed_use (memo_of m)) use_keys use_renamed es h

  pub defined_renamed : (x : DefinedContent) → Each (HasOne f m) (defined_keys x) → AreDefined (IsCopiedValue f s) x (renamed_defined (memo_of m) x)
  defined_renamed (alias_of v) h = value_renamed v h
  defined_renamed (composed l vs) h = (refl, listed_with (HasOne f m) (IsCopiedValue f s) (renamed_value (memo_of m)) value_keys value_renamed vs h)

  pub func_renamed : (x : FuncContent) → Each (HasOne f m) (func_keys x) → AreFuncs (IsCopiedValue f s) x (renamed_func (memo_of m) x)
  func_renamed x h = record {
    params = mapped_with (HasOne f m) (IsCopiedValue f s) (renamed_value (memo_of m)) value_keys value_renamed x.params (Each-left (HasOne f m) (named_keys value_keys x.params) (optional_keys value_keys x.«result») h);
    «result» = any_with (HasOne f m) (IsCopiedValue f s) (renamed_value (memo_of m)) value_keys value_renamed x.«result» (Each-right (HasOne f m) (named_keys value_keys x.params) (optional_keys value_keys x.«result») h);
    is_async = refl;
  }

  alias_renamed : (a : AliasContent) → Each (HasOne f m) (alias_keys a) → IsCopiedAlias f s a (renamed_alias (memo_of m) a)
  alias_renamed a h =
      let owners = optional_keys (λ (o : Id). interface_key o ∷ []) a.owner in
      alias_of_copies f s a (renamed_alias (memo_of m) a)
      (any_with (HasOne f m) (λ p q. IsCopiedKey f s (interface_key p) (interface_key q)) (λ o. renamed_id (memo_of m) (interface_key o)) (λ o. interface_key o ∷ []) (λ o k. copy_of (interface_key o) k.0) a.owner (Each-left (HasOne f m) owners (resource_key a.source ∷ []) h))
      (copy_of (resource_key a.source) (Each-right (HasOne f m) owners (resource_key a.source ∷ []) h).0)

  pub aliases_renamed : (o : Option AliasContent) → Each (HasOne f m) (optional_keys alias_keys o) → IfAny (IsCopiedAlias f s) o (option_map (renamed_alias (memo_of m)) o)
  aliases_renamed o h = any_with (HasOne f m) (IsCopiedAlias f s) (renamed_alias (memo_of m)) alias_keys alias_renamed o h
