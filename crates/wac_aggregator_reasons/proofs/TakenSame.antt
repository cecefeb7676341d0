-- What was taken in has the tree of what it stands for, where the entries that it
-- names have the trees of theirs.
use Rattle.std.proofs.Common.{◌≡◌, List, [], ◌∷◌, Some, refl, sym, ap, subst, ◌∙◌}
use Rattle.wac_model.specs.ItemTree.{ItemTree, Kind, item, type_item, Leaf, leaf, core_module, composite}
use Rattle.wac_model.specs.Order.{Fits, leaves, modules, composites}
use Rattle.wac_component.specs.Id.{Id}
use Rattle.wac_component.specs.Collection.{Collection}
use Rattle.wac_component.specs.Key.{Key, Sort, defined_sort, resource_sort, func_sort, interface_sort, world_sort, module_sort, item_keys, value_keys}
use Rattle.wac_component.specs.Reach.{IsAmong, here}
use Rattle.wac_component.specs.Tree.{item_tree}
use Rattle.wac_component.specs.declared.items.ItemKind.{ItemKind}
use Rattle.wac_component.specs.declared.items.ItemKind.TheVariants.{«Type» as OfType, Func, Instance, Component, Module, Value}
use Rattle.wac_component.specs.declared.items.Type.TheVariants.{Resource as TypeResource, Func as TypeFunc, Value as TypeValue, Interface as TypeInterface, World as TypeWorld, Module as TypeModule}
use Rattle.wac_component.specs.declared.items.ValueType.{ValueType}
use Rattle.wac_component.specs.declared.items.ValueType.TheVariants.{Primitive, Borrow, Own, Defined}
use Rattle.wac_merge.specs.Items.{entry_item, item_of}
use Rattle.wac_names.specs.Class.{class_of}
use Rattle.wac_aggregator_narrowing.specs.State.{State}
use Rattle.wac_aggregator_narrowing.specs.Taking.{SameTree, AreTakenKeys, one_key, no_keys, IsTakenItem}

-- only a leaf fits where it is asked for
leaf_same : {a : ItemTree} (k : Kind) (l : Leaf) → Fits a (leaf k l) → a ≡ leaf k l
leaf_same k l leaves = refl

-- the kind of an item
abbrev kind_of : ItemTree → Kind
kind_of (leaf k l) = k
kind_of (core_module k m) = k
kind_of (composite k s i e) = k

fits_kind : {a b : ItemTree} → Fits a b → kind_of a ≡ kind_of b
fits_kind leaves = refl
fits_kind (modules p) = refl
fits_kind (composites p q) = refl

-- entries that items of both kinds name
abbrev IsEither : Sort → Type 0
IsEither interface_sort = Unit {0}
IsEither world_sort = Unit {0}
IsEither module_sort = Unit {0}
IsEither s = ⊥

tree_kind : (c : Collection) (k : Kind) (s : Sort) (p : Id) → IsEither s → kind_of (item_tree c (item_of k s p)) ≡ k
tree_kind c item interface_sort p h = refl
tree_kind c item world_sort p h = refl
tree_kind c item module_sort p h = refl
tree_kind c type_item interface_sort p h = refl
tree_kind c type_item world_sort p h = refl
tree_kind c type_item module_sort p h = refl
tree_kind c k defined_sort p h = absurd h
tree_kind c k resource_sort p h = absurd h
tree_kind c k func_sort p h = absurd h

-- an item that names such an entry alone
module _ (own : Key) (either : IsEither own.sort) where
  names : (k : Kind) (s : Sort) (p : Id) → record { sort = s; id = p } ∷ [] ≡ own ∷ [] → item_of k s p ≡ entry_item k own
  names k s p e = let same : record { sort = s; id = p } ≡ own = cc in ap (entry_item k) same

  other_sort : (s : Sort) (p : Id) → record { sort = s; id = p } ∷ [] ≡ own ∷ [] → (IsEither s → ⊥) → ⊥
  other_sort s p e not = let same : record { sort = s; id = p } ≡ own = cc in not (subst IsEither (sym (ap (λ (k : Key). k.sort) same)) either)

  no_value : (v : ValueType) → value_keys v ≡ own ∷ [] → ⊥
  no_value (Primitive p) e = cc
  no_value (Borrow r) e = other_sort resource_sort r e (λ h. h)
  no_value (Own r) e = other_sort resource_sort r e (λ h. h)
  no_value (Defined d) e = other_sort defined_sort d e (λ h. h)

  as_entry : (y : ItemKind) → item_keys y ≡ own ∷ [] → (k : Kind) × (y ≡ entry_item k own)
  as_entry (Instance p) e = (item, names item interface_sort p e)
  as_entry (Component p) e = (item, names item world_sort p e)
  as_entry (Module p) e = (item, names item module_sort p e)
  as_entry (OfType (TypeInterface p)) e = (type_item, names type_item interface_sort p e)
  as_entry (OfType (TypeWorld p)) e = (type_item, names type_item world_sort p e)
  as_entry (OfType (TypeModule p)) e = (type_item, names type_item module_sort p e)
  as_entry (Func p) e = absurd (other_sort func_sort p e (λ h. h))
  as_entry (OfType (TypeFunc p)) e = absurd (other_sort func_sort p e (λ h. h))
  as_entry (OfType (TypeResource p)) e = absurd (other_sort resource_sort p e (λ h. h))
  as_entry (Value v) e = absurd (no_value v e)
  as_entry (OfType (TypeValue v)) e = absurd (no_value v e)

module _ (f : Collection) (s : State) where
  -- of an entry
  entry_same : (k : Kind) (theirs : Key) (y : ItemKind) → IsEither theirs.sort → Fits (item_tree s.own y) (item_tree f (entry_item k theirs)) → (js : List Key) → item_keys y ≡ js → AreTakenKeys class_of f s (theirs ∷ []) js
      → ((own : Key) → s.taken theirs ≡ Some own → SameTree f s.own theirs own) → item_tree s.own y ≡ item_tree f (entry_item k theirs)
  entry_same k theirs y either fits js is (one_key {j = own} t no_keys) same =
      let own_either = subst IsEither (sym t.remembered.stands_for.sort) either in
      let at = as_entry own own_either y is in
      let kind : at.0 ≡ k =
      sym (tree_kind s.own at.0 own.sort own.id own_either) ∙ ap (λ z. kind_of (item_tree s.own z)) (sym at.1) ∙ fits_kind fits ∙ tree_kind f k theirs.sort theirs.id either in
      ap (item_tree s.own) (at.1 ∙ ap (λ l. entry_item l own) kind) ∙ same own t.noted k

  -- of an item
  pub taken_same : (x y : ItemKind) → IsTakenItem class_of f s x y → ((theirs own : Key) → IsAmong theirs (item_keys x) → s.taken theirs ≡ Some own → SameTree f s.own theirs own) → item_tree s.own y ≡ item_tree f x
  taken_same (Func p) y t same = leaf_same item _ t.fits
  taken_same (Value v) y t same = leaf_same item _ t.fits
  taken_same (OfType (TypeResource p)) y t same = leaf_same type_item _ t.fits
  taken_same (OfType (TypeFunc p)) y t same = leaf_same type_item _ t.fits
  taken_same (OfType (TypeValue v)) y t same = leaf_same type_item _ t.fits
  taken_same (Instance p) y t same = entry_same item (record { sort = interface_sort; id = p }) y tt t.fits (item_keys y) refl t.keys (λ own is. same _ own here is)
  taken_same (Component p) y t same = entry_same item (record { sort = world_sort; id = p }) y tt t.fits (item_keys y) refl t.keys (λ own is. same _ own here is)
  taken_same (Module p) y t same = entry_same item (record { sort = module_sort; id = p }) y tt t.fits (item_keys y) refl t.keys (λ own is. same _ own here is)
  taken_same (OfType (TypeInterface p)) y t same = entry_same type_item (record { sort = interface_sort; id = p }) y tt t.fits (item_keys y) refl t.keys (λ own is. same _ own here is)
  taken_same (OfType (TypeWorld p)) y t same = entry_same type_item (record { sort = world_sort; id = p }) y tt t.fits (item_keys y) refl t.keys (λ own is. same _ own here is)
  taken_same (OfType (TypeModule p)) y t same = entry_same type_item (record { sort = module_sort; id = p }) y tt t.fits (item_keys y) refl t.keys (λ own is. same _ own here is)
