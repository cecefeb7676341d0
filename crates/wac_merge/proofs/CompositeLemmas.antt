-- The meets and the joins of interfaces, of worlds and of core modules,
-- by what they import and export.
use Rattle.std.proofs.Common.{◌≡◌, refl, ap, sym, subst, subst₂, ◌∙◌, Option, Some, None}
use Rattle.std.specs.Option.{option_map}
use Rattle.wac_model.specs.CoreTree.{ModuleContent, module_of}
use Rattle.wac_model.proofs.Modules.{module_of-is}
use Rattle.wac_model.specs.ItemTree.{ItemTree, Kind, item, type_item, interface, world, composite, core_module, no_items}
use Rattle.wac_model.specs.Order.{Fits}
use Rattle.wac_bounds.specs.MeetIn.{IsMeetIn, IsJoinIn}
use Rattle.wac_bounds.specs.Valid.{ValidModuleFits}
use Rattle.wac_bounds.proofs.CompositeBounds.{composite_meet, composite_no_meet, composite_join, composite_no_join}
use Rattle.wac_bounds.proofs.ModuleBounds.{modules_meet, modules_join}
use Rattle.wac_component.specs.Id.{Id}
use Rattle.wac_component.specs.Collection.{Collection}
use Rattle.wac_component.specs.Key.{Stands, interface_key, world_key, module_key}
use Rattle.wac_component.specs.Sound.{IsSound}
use Rattle.wac_component.specs.Tree.{externs, items_of, item_tree, module_tree}
use Rattle.wac_merge.specs.Bounded.{IsMetAs, IsJoinedAs, AreMet, AreJoined, Clash}
use Rattle.wac_merge.specs.Items.{ExternKinds, entry_item}
use Rattle.wac_merge.specs.Reads.{imports_at, exports_at, HasExports}
use Rattle.wac_merge.proofs.ExternLemmas.{items_met, items_joined, items_clash}
use Rattle.wac_merge.proofs.ReadLemmas.{world_tree}

-- the tree of an item that names an entry

tree_of_interface : (c : Collection) (k : Kind) (x : Id) → item_tree c (entry_item k (interface_key x)) ≡ composite k interface no_items (externs c (interface_key x)).exports
tree_of_interface c item x = refl
tree_of_interface c type_item x = refl

tree_of_world : (c : Collection) (k : Kind) (x : Id) → item_tree c (entry_item k (world_key x)) ≡ composite k world (externs c (world_key x)).imports (externs c (world_key x)).exports
tree_of_world c item x = refl
tree_of_world c type_item x = refl

tree_of_module : (c : Collection) (k : Kind) (x : Id) → item_tree c (entry_item k (module_key x)) ≡ core_module k (module_tree c x)
tree_of_module c item x = refl
tree_of_module c type_item x = refl

interface_form : (c d : Collection) (k : Kind) (x : Id) (es : ExternKinds) → externs c (interface_key x) ≡ record { imports = no_items; exports = items_of (item_tree d) es }
    → item_tree c (entry_item k (interface_key x)) ≡ composite k interface no_items (items_of (item_tree d) es)
interface_form c d k x es h = tree_of_interface c k x ∙ ap (λ t. composite k interface no_items t.exports) h

world_form : (c d : Collection) (k : Kind) (x : Id) (is es : ExternKinds) → externs c (world_key x) ≡ record { imports = items_of (item_tree d) is; exports = items_of (item_tree d) es }
    → item_tree c (entry_item k (world_key x)) ≡ composite k world (items_of (item_tree d) is) (items_of (item_tree d) es)
world_form c d k x is es h = tree_of_world c k x ∙ ap (λ t. composite k world t.imports t.exports) h

-- a bound of trees is one of trees that are equal to them
formed : (R : ItemTree → ItemTree → Type 0) {s s' t t' : ItemTree} {o o' : Option ItemTree} → s ≡ s' → t ≡ t' → o ≡ o' → IsMeetIn R s' t' o' → IsMeetIn R s t o
formed R {s} {s'} {t} {t'} {o} {o'} p q r h =
    subst (λ x. IsMeetIn R x t o) (sym p) (subst (λ x. IsMeetIn R s' x o) (sym q) (subst (λ x. IsMeetIn R s' t' x) (sym r) h))

-- c when the two are read, e with the new entry
module _ (c e : Collection) (x y : Id) (k : Kind) where
  module _ (es ts : ExternKinds) (hx : HasExports c x es) (hy : HasExports c y ts) where
    pub interfaces_met : (ms : ExternKinds) (p : Id) → AreMet c c es ts (Some ms) → externs e (interface_key p) ≡ record { imports = no_items; exports = items_of (item_tree c) ms }
        → IsMetAs c e (entry_item k (interface_key x)) (entry_item k (interface_key y)) (Some (entry_item k (interface_key p)))
    interfaces_met ms p met tree =
        formed Fits (interface_form c c k x es hx.tree) (interface_form c c k y ts hy.tree) (ap (λ (t : ItemTree). Some t) (interface_form e c k p ms tree))
        (composite_meet k interface no_items (items_of (item_tree c) es) no_items (items_of (item_tree c) ts) no_items (items_of (item_tree c) ms) (items_met c es ts ms met) (λ n. (tt, tt, λ u q r. q)))

    pub interfaces_joined : (js : ExternKinds) (p : Id) → AreJoined c c es ts js → externs e (interface_key p) ≡ record { imports = no_items; exports = items_of (item_tree c) js }
        → IsJoinedAs c e (entry_item k (interface_key x)) (entry_item k (interface_key y)) (Some (entry_item k (interface_key p)))
    interfaces_joined js p joined tree =
        formed (λ s t. Fits t s) (interface_form c c k x es hx.tree) (interface_form c c k y ts hy.tree) (ap (λ (t : ItemTree). Some t) (interface_form e c k p js tree))
        (composite_join k interface no_items (items_of (item_tree c) es) no_items (items_of (item_tree c) ts) no_items (items_of (item_tree c) js) (items_joined c es ts js joined) (λ n. (tt, tt, λ u q r. q)))

    pub interfaces_clash : Clash c es ts → IsMetAs c e (entry_item k (interface_key x)) (entry_item k (interface_key y)) None
    interfaces_clash h =
        formed Fits {o = None} {o' = None} (interface_form c c k x es hx.tree) (interface_form c c k y ts hy.tree) refl
        (composite_no_meet k interface no_items (items_of (item_tree c) es) no_items (items_of (item_tree c) ts) h.name (items_clash c es ts h))

  module _ (sound : IsSound c) (sx : Stands c (world_key x)) (sy : Stands c (world_key y)) where
    abbrev is : ExternKinds
    is = imports_at c (world_key x)

    abbrev es : ExternKinds
    es = exports_at c (world_key x)

    abbrev js : ExternKinds
    js = imports_at c (world_key y)

    abbrev ts : ExternKinds
    ts = exports_at c (world_key y)

    pub worlds_met : (ms ns : ExternKinds) (p : Id) → AreMet c c (exports_at c (world_key x)) (exports_at c (world_key y)) (Some ms) → AreJoined c c (imports_at c (world_key x)) (imports_at c (world_key y)) ns
        → externs e (world_key p) ≡ record { imports = items_of (item_tree c) ns; exports = items_of (item_tree c) ms }
        → IsMetAs c e (entry_item k (world_key x)) (entry_item k (world_key y)) (Some (entry_item k (world_key p)))
    worlds_met ms ns p met joined tree =
        formed Fits (world_form c c k x is es (world_tree c x sound sx)) (world_form c c k y js ts (world_tree c y sound sy)) (ap (λ (t : ItemTree). Some t) (world_form e c k p ns ms tree))
        (composite_meet k world (items_of (item_tree c) is) (items_of (item_tree c) es) (items_of (item_tree c) js) (items_of (item_tree c) ts) (items_of (item_tree c) ns) (items_of (item_tree c) ms) (items_met c es ts ms met) (items_joined c is js ns joined))

    pub worlds_joined : (ms ns : ExternKinds) (p : Id) → AreMet c c (imports_at c (world_key x)) (imports_at c (world_key y)) (Some ms) → AreJoined c c (exports_at c (world_key x)) (exports_at c (world_key y)) ns
        → externs e (world_key p) ≡ record { imports = items_of (item_tree c) ms; exports = items_of (item_tree c) ns }
        → IsJoinedAs c e (entry_item k (world_key x)) (entry_item k (world_key y)) (Some (entry_item k (world_key p)))
    worlds_joined ms ns p met joined tree =
        formed (λ s t. Fits t s) (world_form c c k x is es (world_tree c x sound sx)) (world_form c c k y js ts (world_tree c y sound sy)) (ap (λ (t : ItemTree). Some t) (world_form e c k p ms ns tree))
        (composite_join k world (items_of (item_tree c) is) (items_of (item_tree c) es) (items_of (item_tree c) js) (items_of (item_tree c) ts) (items_of (item_tree c) ms) (items_of (item_tree c) ns) (items_joined c es ts ns joined) (items_met c is js ms met))

    pub worlds_clash : Clash c (exports_at c (world_key x)) (exports_at c (world_key y)) → IsMetAs c e (entry_item k (world_key x)) (entry_item k (world_key y)) None
    worlds_clash h =
        formed Fits {o = None} {o' = None} (world_form c c k x is es (world_tree c x sound sx)) (world_form c c k y js ts (world_tree c y sound sy)) refl
        (composite_no_meet k world (items_of (item_tree c) is) (items_of (item_tree c) es) (items_of (item_tree c) js) (items_of (item_tree c) ts) h.name (items_clash c es ts h))

    pub worlds_do_not_join : Clash c (imports_at c (world_key x)) (imports_at c (world_key y)) → IsJoinedAs c e (entry_item k (world_key x)) (entry_item k (world_key y)) None
    worlds_do_not_join h =
        formed (λ s t. Fits t s) {o = None} {o' = None} (world_form c c k x is es (world_tree c x sound sx)) (world_form c c k y js ts (world_tree c y sound sy)) refl
        (composite_no_join k world (items_of (item_tree c) is) (items_of (item_tree c) es) (items_of (item_tree c) js) (items_of (item_tree c) ts) h.name (items_clash c is js h))

-- core modules, which name no items

-- the trees of modules that say this
module _ (c e : Collection) (x y : Id) (k : Kind) (s t : ModuleContent) (o : Option ModuleContent) (r : Option Id)
    (sx : (module_tree c x).content ≡ s) (ty : (module_tree c y).content ≡ t) (is : option_map (λ p. (module_tree e p).content) r ≡ o) where
  trees_saying : (r : Option Id) → option_map (item_tree e) (option_map (λ p. entry_item k (module_key p)) r) ≡ option_map (λ m. core_module k (module_of m)) (option_map (λ p. (module_tree e p).content) r)
  trees_saying None = refl
  trees_saying (Some p) = ap (λ (u : ItemTree). Some u) (tree_of_module e k p ∙ ap (core_module k) (sym (module_of-is (module_tree e p))))

  said : (P : ModuleContent → ModuleContent → Type 0) → P s t → P (module_tree c x).content (module_tree c y).content
  said P h = subst₂ P (sym sx) (sym ty) h

  pub modules_met : IsMeetIn ValidModuleFits s t o → IsMetAs c e (entry_item k (module_key x)) (entry_item k (module_key y)) (option_map (λ p. entry_item k (module_key p)) r)
  modules_met h =
      formed Fits (tree_of_module c k x) (tree_of_module c k y) (trees_saying r ∙ ap (option_map (λ m. core_module k (module_of m))) is)
      (modules_meet k (module_tree c x) (module_tree c y) o (said (λ a b. IsMeetIn ValidModuleFits a b o) h))

  pub modules_joined : IsJoinIn ValidModuleFits s t o → IsJoinedAs c e (entry_item k (module_key x)) (entry_item k (module_key y)) (option_map (λ p. entry_item k (module_key p)) r)
  modules_joined h =
      formed (λ u v. Fits v u) (tree_of_module c k x) (tree_of_module c k y) (trees_saying r ∙ ap (option_map (λ m. core_module k (module_of m))) is)
      (modules_join k (module_tree c x) (module_tree c y) o (said (λ a b. IsJoinIn ValidModuleFits a b o) h))
