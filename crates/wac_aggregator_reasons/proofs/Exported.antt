-- What an item exports, by the entry that it names.
use Rattle.std.specs.Option.{option_map_or}
use Rattle.std.specs.Str.{bytes_eq}
use Rattle.std.proofs.Common.{◌≡◌, refl, sym, ap, ◌∙◌, List, [], Option, Some, None, option_map}
use Rattle.wac_model.specs.Text.{Text, lookup}
use Rattle.wac_model.specs.ItemTree.{Kind, Shape, ItemTree, Items, composite, item_at}
use Rattle.wac_component.specs.Id.{Id}
use Rattle.wac_component.specs.Collection.{Collection}
use Rattle.wac_component.specs.Key.{Key, Entry, defined_entry, resource_entry, func_entry, interface_entry, world_entry, module_entry, entry_at, interface_key, world_key, use_keys, item_keys, named_keys, other_keys, optional_keys, Each, Stands, AllStand}
use Rattle.wac_component.specs.Reach.{IsAmong, here}
use Rattle.wac_component.specs.Sound.{IsSound}
use Rattle.wac_component.specs.Tree.{item_tree, items_of, externs, Externs}
use Rattle.wac_component.specs.Entries.{entry_exports, exports_at}
use Rattle.wac_component.specs.Open.{open_next}
use Rattle.wac_component.specs.declared.items.ItemKind.{ItemKind}
use Rattle.wac_component.specs.declared.items.ItemKind.TheVariants.{«Type» as OfType, Func, Instance, Component, Module, Value}
use Rattle.wac_component.specs.declared.items.Type.TheVariants.{Resource as TypeResource, Func as TypeFunc, Value as TypeValue, Interface as TypeInterface, World as TypeWorld, Module as TypeModule}
use Rattle.wac_component.proofs.Keys.{Each-right}
use Rattle.wac_component.proofs.Reading.{interface_at, world_at, interface_found, world_found}
use Rattle.wac_component.proofs.Trees.{interface-externs, world-externs}
use Rattle.wac_component.proofs.Among.{each_among, each_found}
use Rattle.wac_aggregator_promises.proofs.Read.{item_at-items}

entry_exported : (P : Key → Type 0) (e : Entry) → Each P (other_keys e) → Each P (named_keys item_keys (entry_exports e))
entry_exported P (interface_entry i) h = Each-right P (named_keys use_keys i.uses) (named_keys item_keys i.exports) h
entry_exported P (world_entry w) h = Each-right P (named_keys use_keys w.uses) (named_keys item_keys w.exports) h
entry_exported P (defined_entry d) h = tt
entry_exported P (resource_entry d) h = tt
entry_exported P (func_entry d) h = tt
entry_exported P (module_entry d) h = tt

-- the ids in an export are such as the entry openly leads to
pub export_each : (P : Key → Type 0) (c : Collection) (k : Key) (n : Text) (x : ItemKind) → lookup bytes_eq (exports_at c k) n ≡ Some x → ((j : Key) → IsAmong j (open_next c k) → P j) → Each P (item_keys x)
export_each P c k n x is h = each_found P (exports_at c k) n x is (at_entry (entry_at c k) (each_among P (open_next c k) h))
  where
    at_entry : (o : Option Entry) → Each P (optional_keys other_keys o) → Each P (named_keys item_keys (option_map_or entry_exports o []))
    at_entry None g = tt
    at_entry (Some e) g = entry_exported P e g

-- the entry of a composite item, with its exports
pub record IsExporting (c : Collection) (x : ItemKind) (e : Items) : Type 0 where
  pub key : Key
  pub named : IsAmong key (item_keys x)
  pub stands : Stands c key
  pub exports : items_of (item_tree c) (exports_at c key) ≡ e

module _ (c : Collection) (s : IsSound c) where
  of_interface : (p : Id) → Stands c (interface_key p) → items_of (item_tree c) (exports_at c (interface_key p)) ≡ (externs c (interface_key p)).exports
  of_interface p st = let f = interface_found c p st in
      ap (λ o. items_of (item_tree c) (option_map_or entry_exports o [])) (interface_at c p f.0 f.1) ∙ sym (ap (λ (z : Externs). z.exports) (interface-externs c p f.0 s st f.1))

  of_world : (p : Id) → Stands c (world_key p) → items_of (item_tree c) (exports_at c (world_key p)) ≡ (externs c (world_key p)).exports
  of_world p st = let f = world_found c p st in
      ap (λ o. items_of (item_tree c) (option_map_or entry_exports o [])) (world_at c p f.0 f.1) ∙ sym (ap (λ (z : Externs). z.exports) (world-externs c p f.0 s st f.1))

  pub exporting : (x : ItemKind) (k : Kind) (w : Shape) (i e : Items) → AllStand c (item_keys x) → item_tree c x ≡ composite k w i e → IsExporting c x e
  exporting (Instance p) k w i e st is = record { key = interface_key p; named = here; stands = st.0; exports = let q = of_interface p st.0 in cc }
  exporting (Component p) k w i e st is = record { key = world_key p; named = here; stands = st.0; exports = let q = of_world p st.0 in cc }
  exporting (OfType (TypeInterface p)) k w i e st is = record { key = interface_key p; named = here; stands = st.0; exports = let q = of_interface p st.0 in cc }
  exporting (OfType (TypeWorld p)) k w i e st is = record { key = world_key p; named = here; stands = st.0; exports = let q = of_world p st.0 in cc }
  exporting (OfType (TypeResource p)) k w i e st is = absurd (cc)
  exporting (OfType (TypeFunc p)) k w i e st is = absurd (cc)
  exporting (OfType (TypeValue p)) k w i e st is = absurd (cc)
  exporting (OfType (TypeModule p)) k w i e st is = absurd (cc)
  exporting (Func p) k w i e st is = absurd (cc)
  exporting (Module p) k w i e st is = absurd (cc)
  exporting (Value p) k w i e st is = absurd (cc)

-- an export, from the tree back to the item
pub export_back : (f : ItemKind → ItemTree) (xs : List (Text × ItemKind)) (n : Text) (t : ItemTree) → item_at (items_of f xs) n ≡ Some t → (u : ItemKind) × (lookup bytes_eq xs n ≡ Some u) × (f u ≡ t)
export_back f xs n t h = go (lookup bytes_eq xs n) refl (sym (item_at-items f xs n) ∙ h)
  where
    go : (o : Option ItemKind) → lookup bytes_eq xs n ≡ o → option_map f o ≡ Some t → (u : ItemKind) × (lookup bytes_eq xs n ≡ Some u) × (f u ≡ t)
    go None q r = absurd (cc)
    go (Some u) q r = (u, q, cc)
