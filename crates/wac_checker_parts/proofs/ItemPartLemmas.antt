-- What is left to compare of two items.
use Rattle.std.proofs.Common.{◌≡◌, ap, sym, ◌∙◌, arith}
use Rattle.wac_model.specs.CoreTree.{ModuleTree}
use Rattle.wac_model.specs.ValueTree.{ValueTree}
use Rattle.wac_model.specs.ItemTree.{Kind, Leaf, Shape, Items, leaf, core_module, composite, value, item, type_item}
use Rattle.wac_model.specs.Order.{Fits, modules}
use Rattle.wac_model.proofs.ItemOrder.{Fits-refl, leaf_fits, module_fits, composite_fits, composite_from}
use Rattle.wac_component.specs.Id.{Id}
use Rattle.wac_component.specs.Collection.{Collection}
use Rattle.wac_component.specs.Key.{Key, Stands, value_keys, item_keys, func_key, interface_key, world_key, module_key}
use Rattle.wac_component.specs.Tree.{value_tree, item_tree}
use Rattle.wac_component.specs.declared.items.ItemKind.{ItemKind}
use Rattle.wac_component.specs.declared.items.ItemKind.TheVariants.{«Type» as OfType, Func, Instance, Component, Module}
use Rattle.wac_component.specs.declared.items.ValueType.{ValueType}
use Rattle.wac_component.specs.declared.items.ValueType.TheVariants.{Defined}
use Rattle.wac_component.specs.declared.items.Type.TheVariants.{Func as TypeFunc, Interface as TypeInterface, World as TypeWorld, Module as TypeModule}
use Rattle.wac_checker_parts.specs.Pairs.{AreOf, AreOfItems, Entries, DefinedTypes, Funcs, Interfaces, Worlds, Modules, id_in}
use Rattle.wac_checker_parts.proofs.ItemLemmas.{equal_leaves, values_path}

-- ---- items that are those of entries

-- what fits as an item, or as the type of one, fits as either
leaf_as : {j : Kind} {a b : Leaf} → Fits (leaf j a) (leaf j b) → (k : Kind) → Fits (leaf k a) (leaf k b)
leaf_as {a = a} {b = b} fits k = equal_leaves k a b (leaf_fits fits)

module_as : {j : Kind} {a b : ModuleTree} → Fits (core_module j a) (core_module j b) → (k : Kind) → Fits (core_module k a) (core_module k b)
module_as fits k = modules (module_fits fits)

composite_as : {j : Kind} {s : Shape} {i e i' e' : Items} → Fits (composite j s i e) (composite j s i' e') → (k : Kind) → Fits (composite k s i e) (composite k s i' e')
composite_as {s = s} {i = i} {e = e} {i' = i'} {e' = e'} fits k = composite_from k s i e i' e' (composite_fits fits)

pub of_funcs : (c d : Collection) (a b : Id) → Stands c (func_key a) → Stands d (func_key b) → AreOfItems c d (Func a) (Func b) (Funcs a b)
of_funcs c d a b h k = record { stand = (h, k, tt); left_lower = omega arith; right_lower = omega arith; enough = λ fits. fits item; leads = λ check gs g path. path item; needed = λ fits. leaf_as fits }

pub of_interfaces : (c d : Collection) (a b : Id) → Stands c (interface_key a) → Stands d (interface_key b) → AreOfItems c d (Instance a) (Instance b) (Interfaces a b)
of_interfaces c d a b h k = record { stand = (h, k, tt); left_lower = omega arith; right_lower = omega arith; enough = λ fits. fits item; leads = λ check gs g path. path item; needed = λ fits. composite_as fits }

pub of_worlds : (c d : Collection) (a b : Id) → Stands c (world_key a) → Stands d (world_key b) → AreOfItems c d (Component a) (Component b) (Worlds a b)
of_worlds c d a b h k = record { stand = (h, k, tt); left_lower = omega arith; right_lower = omega arith; enough = λ fits. fits item; leads = λ check gs g path. path item; needed = λ fits. composite_as fits }

pub of_modules : (c d : Collection) (a b : Id) → Stands c (module_key a) → Stands d (module_key b) → AreOfItems c d (Module a) (Module b) (Modules a b)
of_modules c d a b h k = record { stand = (h, k, tt); left_lower = omega arith; right_lower = omega arith; enough = λ fits. fits item; leads = λ check gs g path. path item; needed = λ fits. module_as fits }

-- and the types of such

pub types_of_funcs : (c d : Collection) (a b : Id) → Stands c (func_key a) → Stands d (func_key b) → AreOfItems c d (OfType (TypeFunc a)) (OfType (TypeFunc b)) (Funcs a b)
types_of_funcs c d a b h k = record { stand = (h, k, tt); left_lower = omega arith; right_lower = omega arith; enough = λ fits. fits type_item; leads = λ check gs g path. path type_item; needed = λ fits. leaf_as fits }

pub types_of_interfaces : (c d : Collection) (a b : Id) → Stands c (interface_key a) → Stands d (interface_key b) → AreOfItems c d (OfType (TypeInterface a)) (OfType (TypeInterface b)) (Interfaces a b)
types_of_interfaces c d a b h k = record { stand = (h, k, tt); left_lower = omega arith; right_lower = omega arith; enough = λ fits. fits type_item; leads = λ check gs g path. path type_item; needed = λ fits. composite_as fits }

pub types_of_worlds : (c d : Collection) (a b : Id) → Stands c (world_key a) → Stands d (world_key b) → AreOfItems c d (OfType (TypeWorld a)) (OfType (TypeWorld b)) (Worlds a b)
types_of_worlds c d a b h k = record { stand = (h, k, tt); left_lower = omega arith; right_lower = omega arith; enough = λ fits. fits type_item; leads = λ check gs g path. path type_item; needed = λ fits. composite_as fits }

pub types_of_modules : (c d : Collection) (a b : Id) → Stands c (module_key a) → Stands d (module_key b) → AreOfItems c d (OfType (TypeModule a)) (OfType (TypeModule b)) (Modules a b)
types_of_modules c d a b h k = record { stand = (h, k, tt); left_lower = omega arith; right_lower = omega arith; enough = λ fits. fits type_item; leads = λ check gs g path. path type_item; needed = λ fits. module_as fits }

-- ---- what is left of two items

-- an id that stands in a collection is that of its index there
pub id_here : (c : Collection) (a : Id) → a.number ≡ c.number → id_in c a.index ≡ a
id_here c a e = λ i. record { number = sym e i; index = a.index }

-- one item of one collection fits itself
pub one_fits : (c d : Collection) (x y : ItemKind) (j k : Key) → (c.number ≡ d.number → c ≡ d) → Stands c j → Stands d k → x ≡ y → j ≡ k → Fits (item_tree c x) (item_tree d y)
one_fits c d x y j k one h m same keys =
    let numbers : c.number ≡ d.number = sym h.0 ∙ ap (λ (q : Key). q.id.number) keys ∙ m.0 in
    rw (one numbers, same) (Fits-refl (item_tree d y))

pub value_one : (s t : ValueTree) → value s ≡ value t → s ≡ t
value_one s t h = cc

module _ (c d : Collection) (x y : ItemKind) (k : Kind) (v w : ValueType)
    (left : item_tree c x ≡ leaf k (value (value_tree c v))) (right : item_tree d y ≡ leaf k (value (value_tree d w))) (left_keys : item_keys x ≡ value_keys v) (right_keys : item_keys y ≡ value_keys w) where
  pub of_values : (e : Entries) → AreOf c d v w e → AreOfItems c d x y e
  of_values (DefinedTypes a b) h = record {
    stand = h.2;
    left_lower = rw left_keys h.3;
    right_lower = rw right_keys h.4;
    enough = λ fits. rw (left, right, h.0, h.1) (equal_leaves k (value (value_tree c (Defined a))) (value (value_tree d (Defined b))) (ap value (fits k)));
    leads = λ check gs g path. rw (left, right, h.0, h.1) (values_path gs g check k (value_tree c (Defined a)) (value_tree d (Defined b)) (path k));
    needed = λ fits kind. value_one (value_tree c (Defined a)) (value_tree d (Defined b)) (leaf_fits (rw (left, right, h.0, h.1) at fits));
  }
  of_values (Funcs a b) h = elim h [ ]
  of_values (Interfaces a b) h = elim h [ ]
  of_values (Worlds a b) h = elim h [ ]
  of_values (Modules a b) h = elim h [ ]
