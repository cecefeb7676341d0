-- Members' trees, and the meets of such trees.
use Rattle.std.proofs.Common.{All, ◌≡◌, refl, subst, sym, ap, ◌∙◌, List, ◌∷◌, Option, Some, None, option_map, Contains}
use Rattle.std.specs.Str.{bytes_eq}
use Rattle.std.proofs.lemmas.List.Elements.{All-contains, Contains-get_or}
use Rattle.wac_model.specs.Text.{Text, lookup}
use Rattle.wac_model.specs.CoreTree.{Serves}
use Rattle.wac_model.specs.ItemTree.{Kind, Leaf, ItemTree, Items, item, type_item, leaf, composite, interface, no_items, item_at, func, value, resource}
use Rattle.wac_model.specs.Order.{Fits, composites}
use Rattle.wac_model.proofs.ItemOrder.{Fits-refl, composite_from, from_serves}
use Rattle.wac_bounds.specs.Bounds.{IsLowerBound, IsMeet}
use Rattle.wac_component.specs.Collection.{Collection}
use Rattle.wac_component.specs.Key.{interface_key}
use Rattle.wac_component.specs.Tree.{item_tree, items_of}
use Rattle.wac_component.specs.declared.items.ItemKind.{ItemKind}
use Rattle.wac_component.specs.declared.items.ItemKind.TheVariants.{«Type» as OfType, Func, Instance, Component, Module, Value}
use Rattle.wac_component.specs.declared.items.Type.TheVariants.{Resource as TypeResource, Func as TypeFunc, Value as TypeValue, Interface as TypeInterface, World as TypeWorld, Module as TypeModule}
use Rattle.wac_component.specs.Entries.{exports_at}
use Rattle.wac_component.proofs.Among.{Contains-first}
use Rattle.wac_aggregator_promises.specs.Leaves.{IsLeafMap, export_at, IsUnionOf}
use Rattle.wac_aggregator_promises.specs.Laws.{MembersAreLeafMaps}
use Rattle.wac_aggregator_promises.specs.WitList.{IsLeafItem}
use Rattle.wac_aggregator_promises.proofs.Members.{members_stand}
use Rattle.wac_aggregator_promises.proofs.WitReasons.{instance_fits}
use Rattle.wac_aggregator_promises.proofs.Read.{item_at-items, interface_tree, lookup_contains}

leaf_tree : (c : Collection) (x : ItemKind) → IsLeafItem x → (k : Kind) × (l : Leaf) × (item_tree c x ≡ leaf k l)
leaf_tree c (Func f) h = (item, func _, refl)
leaf_tree c (OfType (TypeValue v)) h = (type_item, value _, refl)
leaf_tree c (OfType (TypeResource r)) h = (type_item, resource _, refl)
leaf_tree c (OfType (TypeFunc f)) h = absurd h
leaf_tree c (OfType (TypeInterface f)) h = absurd h
leaf_tree c (OfType (TypeWorld f)) h = absurd h
leaf_tree c (OfType (TypeModule f)) h = absurd h
leaf_tree c (Instance f) h = absurd h
leaf_tree c (Component f) h = absurd h
leaf_tree c (Module f) h = absurd h
leaf_tree c (Value f) h = absurd h

pub members_are_maps : MembersAreLeafMaps
members_are_maps calls c i wit sound m =
    let st = members_stand calls c i sound m in
    record { exports = items_of (item_tree c) (exports_at c (interface_key i)); is_instance = interface_tree c i st.0 st.1; leaves = leaves }
  where
    es : List (Text × ItemKind)
    es = exports_at c (interface_key i)

    named_leaf : (n : Text) (t : ItemTree) (o : Option ItemKind) → lookup bytes_eq es n ≡ o → option_map (item_tree c) o ≡ Some t → (k : Kind) × (l : Leaf) × (t ≡ leaf k l)
    named_leaf n t None e f = absurd (cc f)
    named_leaf n t (Some x) e f =
        let at = lookup_contains es n x e in
        let l = leaf_tree c x (All-contains (λ (y : Text × ItemKind). IsLeafItem y.1) es (n, x) (wit.exports c i m) at) in
        let same : t ≡ item_tree c x = cc f in
        (l.0, l.1, same ∙ l.2)

    leaves : (n : Text) (t : ItemTree) → item_at (items_of (item_tree c) es) n ≡ Some t → (k : Kind) × (l : Leaf) × (t ≡ leaf k l)
    leaves n t e = named_leaf n t (lookup bytes_eq es n) refl (sym (item_at-items (item_tree c) es n) ∙ e)

-- an instance fits where another is asked for that exports a part of what it does
instance_part : (e f : Items) → ((n : Text) (x : ItemTree) → item_at f n ≡ Some x → item_at e n ≡ Some x) → Fits (composite item interface no_items e) (composite item interface no_items f)
instance_part e f h = composite_from item interface no_items e no_items f record { exports = λ n. at (item_at f n) n refl; imports = λ n. tt }
  where
    at : (o : Option ItemTree) (n : Text) → item_at f n ≡ o → Serves Fits (item_at e n) o
    at None n q = tt
    at (Some x) n q = subst (λ (r : Option ItemTree). Serves Fits r (Some x)) (sym (h n x q)) (Fits-refl x)

-- what is below an instance is below each one whose exports it has
served_at : (o r : Option ItemTree) → ((x : ItemTree) → r ≡ Some x → (y : ItemTree) × (o ≡ Some y) × Fits y x) → Serves Fits o r
served_at o None h = tt
served_at o (Some x) h = let y = h x refl in subst (λ (q : Option ItemTree). Serves Fits q (Some x)) (sym y.1) y.2

under_instance : {c : ItemTree} {f : Items} (g : Items) → Fits c (composite item interface no_items f) → ((n : Text) (x : ItemTree) → item_at g n ≡ Some x → (y : ItemTree) × (export_at c n ≡ Some y) × Fits y x) → Fits c (composite item interface no_items g)
under_instance g (composites {e = e} p q) h = composites (λ n. from_serves _ _ (served_at (item_at e n) (item_at g n) (h n))) q

pub union_is_meet : (t : ItemTree) (ts : List ItemTree) (m : ItemTree) → All IsLeafMap (t ∷ ts) → IsUnionOf m (t ∷ ts) → IsMeet m (t ∷ ts)
union_is_meet t ts m maps union = record {
  is_below = λ k d l. below _ (Contains-get_or (t ∷ ts) k d l);
  is_greatest = greatest;
}
  where
    map_of : (x : ItemTree) → Contains (t ∷ ts) x → IsLeafMap x
    map_of x at = All-contains IsLeafMap (t ∷ ts) x maps at

    -- what an instance exports
    exports_of : (x : ItemTree) (k : IsLeafMap x) (n : Text) → export_at x n ≡ item_at k.exports n
    exports_of x k n = ap (λ (y : ItemTree). export_at y n) k.is_instance

    below : (x : ItemTree) → Contains (t ∷ ts) x → Fits m x
    below x at =
        let k = map_of x at in
        subst (λ (y : ItemTree). Fits m y) (sym k.is_instance)
        (subst (λ (y : ItemTree). Fits y (composite item interface no_items k.exports)) (sym union.is_map.is_instance)
        (instance_part union.is_map.exports k.exports (λ n y e. sym (exports_of m union.is_map n) ∙ union.of_each x n y at (exports_of x k n ∙ e))))

    greatest : (c : ItemTree) → IsLowerBound c (t ∷ ts) → Fits c m
    greatest c b =
        let head = map_of t (Contains-first t ts) in
        subst (λ (y : ItemTree). Fits c y) (sym union.is_map.is_instance)
        (under_instance union.is_map.exports (subst (λ (y : ItemTree). Fits c y) head.is_instance (All-contains (λ y. Fits c y) (t ∷ ts) t b (Contains-first t ts)))
        (λ n x e. at_name n x (union.of_one n x (exports_of m union.is_map n ∙ e))))
      where
        at_name : (n : Text) (x : ItemTree) → (y : ItemTree) × Contains (t ∷ ts) y × (export_at y n ≡ Some x) → (z : ItemTree) × (export_at c n ≡ Some z) × Fits z x
        at_name n x y =
            let k = map_of y.0 y.1 in
            instance_fits c k.exports n x (subst (λ (w : ItemTree). Fits c w) k.is_instance (All-contains (λ w. Fits c w) (t ∷ ts) y.0 b y.1)) (sym (exports_of y.0 k n) ∙ y.2)
