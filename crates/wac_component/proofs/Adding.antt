-- What adding an entry that names what stands gives.
use Rattle.std.proofs.Common.{◌≡◌, ◌<◌, ℕ, arith, map, length-append, List, [], ◌∷◌, ◌++◌, length, refl, ◌∙◌}
use Rattle.std.proofs.lemmas.List.{length-map}
use Rattle.wac_model.specs.CoreTree.{ModuleTree}
use Rattle.wac_component.specs.Id.{Id}
use Rattle.wac_component.specs.Collection.{Collection, DefinedContent, ResourceContent, FuncContent, InterfaceContent, WorldContent}
use Rattle.wac_component.specs.Key.{Entry, defined_entry, resource_entry, func_entry, interface_entry, world_entry, module_entry, entry_keys, Stands, AllStand, interface_key, world_key, defined_keys, resource_keys, func_keys, interface_keys, world_keys}
use Rattle.wac_component.specs.Sound.{IsSound}
use Rattle.wac_component.specs.Unfolding.{unfolded}
use Rattle.wac_component.specs.Tree.{value_tree, content_tree, root_name, content_name, entry_name, func_tree, func_content_tree, module_tree, externs, interface_externs, world_externs, item_tree}
use Rattle.wac_component.specs.Growth.{Extends, with_entry}
use Rattle.wac_component.specs.declared.items.ValueType.TheVariants.{Defined}
use Rattle.wac_component.proofs.Lists.{slice_get-last}
use Rattle.wac_component.proofs.Unfolded.{Keeps}
use Rattle.wac_component.proofs.Trees.{value_tree-entry, root_name-entry, func_tree-entry, module_tree-entry, interface-externs, world-externs, interface_externs-agree, world_externs-agree, content_tree-agree, func_content_tree-agree, entry_name-local}
use Rattle.wac_component.proofs.Kept.{value_tree-kept, name-kept, item_tree-kept}
use Rattle.wac_component.proofs.Added.{Adds-with_entry, sort_of, IsSound-Adds, Extends-Adds, keeps_what_stood}

pub IsSound-with_entry : (c : Collection) (e : Entry) → IsSound c → AllStand c (entry_keys e) → IsSound (with_entry c e)
IsSound-with_entry c e s named = IsSound-Adds c (with_entry c e) (sort_of e) e (Adds-with_entry c e) s named

pub Extends-with_entry : (c : Collection) (e : Entry) → IsSound c → Extends c (with_entry c e)
Extends-with_entry c e s = Extends-Adds c (with_entry c e) (sort_of e) e (Adds-with_entry c e) s

-- the index at which a content was put is one of the longer list
pub is_below : {A B C : Type 0} (g : B → C) (f : A → B) (xs ys : List A) (x : A) (i : ℕ) → i ≡ length (map f xs) → ys ≡ xs ++ x ∷ [] → i < length (map g (map f ys))
is_below g f xs ys x i last pushed = let same : i ≡ length xs = simp length-map at last in rw pushed (simp (length-map, length-append) (omega arith))

last_below : {A : Type 0} (f : A → Entry) (xs : List A) (x : A) → length xs < length (map f (xs ++ x ∷ []))
last_below f xs x = simp (length-map, length-append) (omega arith)

keeps : (c : Collection) (e : Entry) → IsSound c → Keeps c (with_entry c e) (Stands c)
keeps c e s = keeps_what_stood c (with_entry c e) (sort_of e) e (Adds-with_entry c e) s

pub value_tree-with_defined : (c : Collection) (e : DefinedContent) (i : ℕ) (p : Id) → IsSound c → AllStand c (defined_keys e) → i ≡ length c.defined → p ≡ record { number = c.number; index = i } → value_tree (with_entry c (defined_entry e)) (Defined p) ≡ content_tree (value_tree c) e
value_tree-with_defined c e i p s named last is =
    let d : Collection = with_entry c (defined_entry e) in
    value_tree-entry d p e (IsSound-with_entry c (defined_entry e) s named) (rw (is, last) (refl, last_below defined_entry c.defined e)) (rw (is, last) (slice_get-last c.defined e))
    ∙ content_tree-agree (Stands c) (value_tree d) (value_tree c) (value_tree-kept c d (Stands c) (keeps c (defined_entry e) s)) e named

pub root_name-with_resource : (c : Collection) (e : ResourceContent) (i : ℕ) (p : Id) → IsSound c → AllStand c (resource_keys e) → i ≡ length c.resources → p ≡ record { number = c.number; index = i } → root_name (with_entry c (resource_entry e)) p ≡ content_name (root_name c) e
root_name-with_resource c e i p s named last is =
    let d : Collection = with_entry c (resource_entry e) in
    root_name-entry d p e (IsSound-with_entry c (resource_entry e) s named) (rw (is, last) (refl, last_below resource_entry c.resources e)) (rw (is, last) (slice_get-last c.resources e))
    ∙ entry_name-local (Stands c) (unfolded [] entry_name d) (unfolded [] entry_name c) (name-kept c d (Stands c) (keeps c (resource_entry e) s)) (resource_entry e) named

pub func_tree-with_func : (c : Collection) (e : FuncContent) (i : ℕ) (p : Id) → IsSound c → AllStand c (func_keys e) → i ≡ length c.funcs → p ≡ record { number = c.number; index = i } → func_tree (with_entry c (func_entry e)) p ≡ func_content_tree c e
func_tree-with_func c e i p s named last is =
    let d : Collection = with_entry c (func_entry e) in
    func_tree-entry d p e (rw (is, last) (slice_get-last c.funcs e))
    ∙ func_content_tree-agree d c (Stands c) (value_tree-kept c d (Stands c) (keeps c (func_entry e) s)) e named

pub externs-with_interface : (c : Collection) (e : InterfaceContent) (i : ℕ) (p : Id) → IsSound c → AllStand c (interface_keys e) → i ≡ length c.interfaces → p ≡ record { number = c.number; index = i } → externs (with_entry c (interface_entry e)) (interface_key p) ≡ interface_externs (item_tree c) e
externs-with_interface c e i p s named last is =
    let d : Collection = with_entry c (interface_entry e) in
    interface-externs d p e (IsSound-with_entry c (interface_entry e) s named) (rw (is, last) (refl, last_below interface_entry c.interfaces e)) (rw (is, last) (slice_get-last c.interfaces e))
    ∙ interface_externs-agree (Stands c) (item_tree d) (item_tree c) (item_tree-kept c d (Stands c) (keeps c (interface_entry e) s)) e named

pub externs-with_world : (c : Collection) (e : WorldContent) (i : ℕ) (p : Id) → IsSound c → AllStand c (world_keys e) → i ≡ length c.worlds → p ≡ record { number = c.number; index = i } → externs (with_entry c (world_entry e)) (world_key p) ≡ world_externs (item_tree c) e
externs-with_world c e i p s named last is =
    let d : Collection = with_entry c (world_entry e) in
    world-externs d p e (IsSound-with_entry c (world_entry e) s named) (rw (is, last) (refl, last_below world_entry c.worlds e)) (rw (is, last) (slice_get-last c.worlds e))
    ∙ world_externs-agree (Stands c) (item_tree d) (item_tree c) (item_tree-kept c d (Stands c) (keeps c (world_entry e) s)) e named

pub module_tree-with_module : (c : Collection) (e : ModuleTree) (i : ℕ) (p : Id) → i ≡ length c.modules → p ≡ record { number = c.number; index = i } → module_tree (with_entry c (module_entry e)) p ≡ e
module_tree-with_module c e i p last is = module_tree-entry (with_entry c (module_entry e)) p e (rw (is, last) (slice_get-last c.modules e))
