-- What an id whose entry was replaced stands for.
use Rattle.std.proofs.Common.{◌≡◌, ◌<◌, length, sym, subst, arith}
use Rattle.std.proofs.lemmas.List.{length-map}
use Rattle.wac_model.specs.CoreTree.{ModuleTree}
use Rattle.wac_component.specs.Id.{Id}
use Rattle.wac_component.specs.Collection.{Collection, DefinedContent, ResourceContent, FuncContent, InterfaceContent, WorldContent}
use Rattle.wac_component.specs.Key.{Key, Entry, defined_entry, resource_entry, func_entry, interface_entry, world_entry, module_entry, entry_keys, Each, Stands, AllStand, interface_key, world_key, module_key}
use Rattle.wac_component.specs.Sound.{IsSound}
use Rattle.wac_component.specs.Tree.{value_tree, content_tree, root_name, content_name, func_tree, func_content_tree, module_tree, externs, interface_externs, world_externs, item_tree}
use Rattle.wac_component.specs.Replacing.{replaced, NamesReach}
use Rattle.wac_component.specs.declared.items.ValueType.TheVariants.{Defined}
use Rattle.wac_component.proofs.Lists.{slice_get-set_same}
use Rattle.wac_component.proofs.Put.{value_tree-put, root_name-put, func_tree-put, interface_externs-put, world_externs-put}
use Rattle.wac_component.proofs.Replaced.{IsApart, keeps_apart, all_apart, stands_on}
use Rattle.wac_component.proofs.Replacing.{key_for, Puts-replaced, IsSound-replaced}
use Rattle.wac_component.proofs.Trees.{module_tree-entry}
use Rattle.wac_component.proofs.Unfolded.{Keeps}

-- the entry can be put at the id
pub record CanPut (c : Collection) (p : Id) (e : Entry) : Type 0 where
  pub sound : IsSound c
  pub stands : Stands c (key_for e p)
  pub named : AllStand c (entry_keys e)
  pub none : ¬ NamesReach c (entry_keys e) (key_for e p)

pub can_put : (c now : Collection) (p : Id) (e : Entry) → c ≡ now → IsSound c → Stands now (key_for e p) → AllStand now (entry_keys e) → ¬ NamesReach now (entry_keys e) (key_for e p) → CanPut c p e
can_put c now p e same s st named none = subst (λ x. CanPut x p e) (sym same) (record { sound = subst IsSound same s; stands = st; named = named; none = none })

module _ (c : Collection) (p : Id) (e : Entry) (can : CanPut c p e) where
  abbrev Apart : Key → Type 0
  Apart = IsApart c (replaced c p.index e) (key_for e p) e (Puts-replaced c p e can.stands)

  keeps : Keeps c (replaced c p.index e) Apart
  keeps = keeps_apart c (replaced c p.index e) (key_for e p) e (Puts-replaced c p e can.stands) can.sound

  named_apart : Each Apart (entry_keys e)
  named_apart = all_apart c (replaced c p.index e) (key_for e p) e (Puts-replaced c p e can.stands) (entry_keys e) can.named can.none

  stands : Stands (replaced c p.index e) (key_for e p)
  stands = stands_on c (replaced c p.index e) (key_for e p) e (Puts-replaced c p e can.stands) (key_for e p) can.stands

  pub sound : IsSound (replaced c p.index e)
  sound = IsSound-replaced c p e can.stands can.sound can.named can.none

pub value_tree-after : (c now : Collection) (p : Id) (e : DefinedContent) → c ≡ now → CanPut c p (defined_entry e) → value_tree (replaced c p.index (defined_entry e)) (Defined p) ≡ content_tree (value_tree now) e
value_tree-after c now p e same can =
    let below : p.index < length c.defined = let i = can.stands.1 in omega (arith, i, length-map c.defined defined_entry) in
    subst (λ x. value_tree (replaced c p.index (defined_entry e)) (Defined p) ≡ content_tree (value_tree x) e) same (value_tree-put c (replaced c p.index (defined_entry e)) (Apart c p (defined_entry e) can) (keeps c p (defined_entry e) can) (sound c p (defined_entry e) can) p e (stands c p (defined_entry e) can) (slice_get-set_same c.defined p.index e below) (named_apart c p (defined_entry e) can))

pub root_name-after : (c now : Collection) (p : Id) (e : ResourceContent) → c ≡ now → CanPut c p (resource_entry e) → root_name (replaced c p.index (resource_entry e)) p ≡ content_name (root_name now) e
root_name-after c now p e same can =
    let below : p.index < length c.resources = let i = can.stands.1 in omega (arith, i, length-map c.resources resource_entry) in
    subst (λ x. root_name (replaced c p.index (resource_entry e)) p ≡ content_name (root_name x) e) same (root_name-put c (replaced c p.index (resource_entry e)) (Apart c p (resource_entry e) can) (keeps c p (resource_entry e) can) (sound c p (resource_entry e) can) p e (stands c p (resource_entry e) can) (slice_get-set_same c.resources p.index e below) (named_apart c p (resource_entry e) can))

pub func_tree-after : (c now : Collection) (p : Id) (e : FuncContent) → c ≡ now → CanPut c p (func_entry e) → func_tree (replaced c p.index (func_entry e)) p ≡ func_content_tree now e
func_tree-after c now p e same can =
    let below : p.index < length c.funcs = let i = can.stands.1 in omega (arith, i, length-map c.funcs func_entry) in
    subst (λ x. func_tree (replaced c p.index (func_entry e)) p ≡ func_content_tree x e) same (func_tree-put c (replaced c p.index (func_entry e)) (Apart c p (func_entry e) can) (keeps c p (func_entry e) can) (sound c p (func_entry e) can) p e (slice_get-set_same c.funcs p.index e below) (named_apart c p (func_entry e) can))

pub interface_externs-after : (c now : Collection) (p : Id) (e : InterfaceContent) → c ≡ now → CanPut c p (interface_entry e) → externs (replaced c p.index (interface_entry e)) (interface_key p) ≡ interface_externs (item_tree now) e
interface_externs-after c now p e same can =
    let below : p.index < length c.interfaces = let i = can.stands.1 in omega (arith, i, length-map c.interfaces interface_entry) in
    subst (λ x. externs (replaced c p.index (interface_entry e)) (interface_key p) ≡ interface_externs (item_tree x) e) same (interface_externs-put c (replaced c p.index (interface_entry e)) (Apart c p (interface_entry e) can) (keeps c p (interface_entry e) can) (sound c p (interface_entry e) can) p e (stands c p (interface_entry e) can) (slice_get-set_same c.interfaces p.index e below) (named_apart c p (interface_entry e) can))

pub world_externs-after : (c now : Collection) (p : Id) (e : WorldContent) → c ≡ now → CanPut c p (world_entry e) → externs (replaced c p.index (world_entry e)) (world_key p) ≡ world_externs (item_tree now) e
world_externs-after c now p e same can =
    let below : p.index < length c.worlds = let i = can.stands.1 in omega (arith, i, length-map c.worlds world_entry) in
    subst (λ x. externs (replaced c p.index (world_entry e)) (world_key p) ≡ world_externs (item_tree x) e) same (world_externs-put c (replaced c p.index (world_entry e)) (Apart c p (world_entry e) can) (keeps c p (world_entry e) can) (sound c p (world_entry e) can) p e (stands c p (world_entry e) can) (slice_get-set_same c.worlds p.index e below) (named_apart c p (world_entry e) can))

pub module_tree-after : (c now : Collection) (p : Id) (e : ModuleTree) → c ≡ now → Stands now (module_key p) → module_tree (replaced c p.index (module_entry e)) p ≡ e
module_tree-after c now p e same st =
    let at : Stands c (module_key p) = subst (λ x. Stands x (module_key p)) (sym same) st in
    let below : p.index < length c.modules = let i = at.1 in omega (arith, i, length-map c.modules module_entry) in
    module_tree-entry (replaced c p.index (module_entry e)) p e (slice_get-set_same c.modules p.index e below)
