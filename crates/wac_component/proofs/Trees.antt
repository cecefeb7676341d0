-- The trees of entries follow from those of what the entries name.
use Rattle.std.proofs.Common.{◌≡◌, List, [], ◌∷◌, ◌++◌, Option, Some, None, map, slice_get, refl, ap, ◌∙◌}
use Rattle.std.specs.List.{flat_map}
use Rattle.std.specs.Option.{option_map, option_map_or}
use Rattle.wac_model.specs.Text.{Text}
use Rattle.wac_model.specs.ValueTree.{ValueTree, FuncTree, node, parts_of, no_parts, borrow, own, tuple}
use Rattle.wac_model.specs.CoreTree.{ModuleTree}
use Rattle.wac_model.specs.ItemTree.{ItemTree, item, type_item, leaf, core_module, composite, interface, world, no_items, resource, func, value}
use Rattle.wac_component.specs.Id.{Id}
use Rattle.wac_component.specs.Collection.{Collection, DefinedContent, alias_of, composed, ResourceContent, AliasContent, FuncContent, InterfaceContent, WorldContent}
use Rattle.wac_component.specs.Key.{Key, defined_entry, resource_entry, func_entry, interface_entry, world_entry, module_entry, Each, defined_key, resource_key, func_key, interface_key, world_key, module_key, value_keys, type_keys, item_keys, defined_keys, func_keys, interface_keys, world_keys, named_keys, optional_keys, alias_keys, use_keys, Stands}
use Rattle.wac_component.specs.Sound.{IsSound}
use Rattle.wac_component.specs.Laws.{FollowsEntries}
use Rattle.wac_component.specs.Tree.{content_name, entry_name, root_name, value_tree_by, content_tree, entry_value, value_tree, func_content_tree, func_tree, module_tree, Externs, type_tree_by, item_tree_by, items_of, interface_externs, world_externs, entry_externs, externs, item_tree}
use Rattle.wac_component.specs.declared.items.ValueType.{ValueType}
use Rattle.wac_component.specs.declared.items.ValueType.TheVariants.{Primitive, Borrow, Own, Defined}
use Rattle.wac_component.specs.declared.items.ItemKind.{ItemKind}
use Rattle.wac_component.specs.declared.items.ItemKind.TheVariants.{«Type» as OfType, Func, Instance, Component, Module, Value}
use Rattle.wac_component.specs.declared.items.Type.{«Type» as TypeOf}
use Rattle.wac_component.specs.declared.items.Type.TheVariants.{Resource as TypeResource, Func as TypeFunc, Value as TypeValue, Interface as TypeInterface, World as TypeWorld, Module as TypeModule}
use Rattle.wac_component.proofs.Keys.{Each-left, Each-right}
use Rattle.wac_component.proofs.Lists.{slice_get-map}
use Rattle.wac_component.proofs.Unfolded.{Agrees, unfolded-entry}

-- names

content_name_agree : (P : Key → Type 0) (f g : Key → Text) → ((k : Key) → P k → f k ≡ g k) → (name : Text) (o : Option AliasContent) → Each P (optional_keys alias_keys o) → option_map_or (λ (a : AliasContent). f (resource_key a.source)) o name ≡ option_map_or (λ (a : AliasContent). g (resource_key a.source)) o name
content_name_agree P f g same name None all = refl
content_name_agree P f g same name (Some a) all = same (resource_key a.source) (Each-right P (optional_keys (λ (o : Id). interface_key o ∷ []) a.owner) (resource_key a.source ∷ []) all).0

pub entry_name-local : (P : Key → Type 0) → Agrees entry_name entry_name P
entry_name-local P f g same (resource_entry r) all = content_name_agree P f g same r.name r.alias all
entry_name-local P f g same (defined_entry d) all = refl
entry_name-local P f g same (func_entry d) all = refl
entry_name-local P f g same (interface_entry d) all = refl
entry_name-local P f g same (world_entry d) all = refl
entry_name-local P f g same (module_entry d) all = refl

-- value types

-- the names of two collections agree on the resources of P
abbrev pub SameNames : Collection → Collection → (Key → Type 0) → Type 0
SameNames c d P = (r : Id) → P (resource_key r) → root_name c r ≡ root_name d r

abbrev pub SameValues : Collection → Collection → (Key → Type 0) → Type 0
SameValues c d P = (v : ValueType) → Each P (value_keys v) → value_tree c v ≡ value_tree d v

pub value_tree_by-agree : (c d : Collection) (P : Key → Type 0) → SameNames c d P → (f g : Key → ValueTree) → ((k : Key) → P k → f k ≡ g k) → (v : ValueType) → Each P (value_keys v) → value_tree_by c f v ≡ value_tree_by d g v
value_tree_by-agree c d P names f g same (Primitive p) all = refl
value_tree_by-agree c d P names f g same (Borrow r) all = ap (λ (x : Text). node (borrow x) no_parts) (names r all.0)
value_tree_by-agree c d P names f g same (Own r) all = ap (λ (x : Text). node (own x) no_parts) (names r all.0)
value_tree_by-agree c d P names f g same (Defined p) all = same (defined_key p) all.0

map_agree : (P : Key → Type 0) (f g : ValueType → ValueTree) → ((v : ValueType) → Each P (value_keys v) → f v ≡ g v) → (vs : List ValueType) → Each P (flat_map value_keys vs) → map f vs ≡ map g vs
map_agree P f g same [] all = refl
map_agree P f g same (v ∷ vs) all =
    let first = same v (Each-left P (value_keys v) (flat_map value_keys vs) all) in
    let others = map_agree P f g same vs (Each-right P (value_keys v) (flat_map value_keys vs) all) in
    rw (first, others) refl

pub content_tree-agree : (P : Key → Type 0) (f g : ValueType → ValueTree) → ((v : ValueType) → Each P (value_keys v) → f v ≡ g v) → (d : DefinedContent) → Each P (defined_keys d) → content_tree f d ≡ content_tree g d
content_tree-agree P f g same (alias_of of) all = same of all
content_tree-agree P f g same (composed label members) all = ap (λ (ts : List ValueTree). node label (parts_of ts)) (map_agree P f g same members all)

pub entry_value-agree : (c d : Collection) (P : Key → Type 0) → SameNames c d P → Agrees (entry_value c) (entry_value d) P
entry_value-agree c d P names f g same (defined_entry e) all = content_tree-agree P (value_tree_by c f) (value_tree_by d g) (value_tree_by-agree c d P names f g same) e all
entry_value-agree c d P names f g same (resource_entry e) all = refl
entry_value-agree c d P names f g same (func_entry e) all = refl
entry_value-agree c d P names f g same (interface_entry e) all = refl
entry_value-agree c d P names f g same (world_entry e) all = refl
entry_value-agree c d P names f g same (module_entry e) all = refl

pub entry_value-local : (c : Collection) (P : Key → Type 0) → Agrees (entry_value c) (entry_value c) P
entry_value-local c P = entry_value-agree c c P (λ r _. refl)

-- functions

abbrev with_trees : (ValueType → ValueTree) → List (Text × ValueType) → List (Text × ValueTree)
with_trees f ps = map (λ p. (p.0, f p.1)) ps

params_agree : (P : Key → Type 0) (f g : ValueType → ValueTree) → ((v : ValueType) → Each P (value_keys v) → f v ≡ g v) → (ps : List (Text × ValueType)) → Each P (named_keys value_keys ps) → with_trees f ps ≡ with_trees g ps
params_agree P f g same [] all = refl
params_agree P f g same (p ∷ ps) all =
    let first = same p.1 (Each-left P (value_keys p.1) (named_keys value_keys ps) all) in
    let others = params_agree P f g same ps (Each-right P (value_keys p.1) (named_keys value_keys ps) all) in
    rw (first, others) refl

result_agree : (P : Key → Type 0) (f g : ValueType → ValueTree) → ((v : ValueType) → Each P (value_keys v) → f v ≡ g v) → (o : Option ValueType) → Each P (optional_keys value_keys o) → option_map f o ≡ option_map g o
result_agree P f g same None all = refl
result_agree P f g same (Some v) all = ap Some (same v all)

pub func_content_tree-agree : (c d : Collection) (P : Key → Type 0) → SameValues c d P → (f : FuncContent) → Each P (func_keys f) → func_content_tree c f ≡ func_content_tree d f
func_content_tree-agree c d P same f all =
    let ps = params_agree P (value_tree c) (value_tree d) same f.params (Each-left P (named_keys value_keys f.params) (optional_keys value_keys f.«result») all) in
    let r = result_agree P (value_tree c) (value_tree d) same f.«result» (Each-right P (named_keys value_keys f.params) (optional_keys value_keys f.«result») all) in
    λ i. record { params = ps i; «result» = r i; is_async = f.is_async }

-- items

-- what stands below interfaces and worlds is the same in two collections, for the ids of P
pub record SameLeaves (c d : Collection) (P : Key → Type 0) : Type 0 where
  pub names : SameNames c d P
  pub values : SameValues c d P
  pub funcs : (f : Id) → P (func_key f) → func_tree c f ≡ func_tree d f
  pub modules : (m : Id) → P (module_key m) → module_tree c m ≡ module_tree d m

type_tree_by-agree : (c d : Collection) (P : Key → Type 0) → SameLeaves c d P → (f g : Key → Externs) → ((k : Key) → P k → f k ≡ g k) → (t : TypeOf) → Each P (type_keys t) → type_tree_by c f t ≡ type_tree_by d g t
type_tree_by-agree c d P s f g same (TypeResource r) all = ap (λ (x : Text). leaf type_item (resource x)) (s.names r all.0)
type_tree_by-agree c d P s f g same (TypeFunc p) all = ap (λ (x : FuncTree). leaf type_item (func x)) (s.funcs p all.0)
type_tree_by-agree c d P s f g same (TypeValue v) all = ap (λ (x : ValueTree). leaf type_item (value x)) (s.values v all)
type_tree_by-agree c d P s f g same (TypeInterface i) all = ap (λ (x : Externs). composite type_item interface no_items x.exports) (same (interface_key i) all.0)
type_tree_by-agree c d P s f g same (TypeWorld w) all = ap (λ (x : Externs). composite type_item world x.imports x.exports) (same (world_key w) all.0)
type_tree_by-agree c d P s f g same (TypeModule m) all = ap (λ (x : ModuleTree). core_module type_item x) (s.modules m all.0)

pub item_tree_by-agree : (c d : Collection) (P : Key → Type 0) → SameLeaves c d P → (f g : Key → Externs) → ((k : Key) → P k → f k ≡ g k) → (i : ItemKind) → Each P (item_keys i) → item_tree_by c f i ≡ item_tree_by d g i
item_tree_by-agree c d P s f g same (OfType t) all = type_tree_by-agree c d P s f g same t all
item_tree_by-agree c d P s f g same (Func p) all = ap (λ (x : FuncTree). leaf item (func x)) (s.funcs p all.0)
item_tree_by-agree c d P s f g same (Instance i) all = ap (λ (x : Externs). composite item interface no_items x.exports) (same (interface_key i) all.0)
item_tree_by-agree c d P s f g same (Component w) all = ap (λ (x : Externs). composite item world x.imports x.exports) (same (world_key w) all.0)
item_tree_by-agree c d P s f g same (Module m) all = ap (λ (x : ModuleTree). core_module item x) (s.modules m all.0)
item_tree_by-agree c d P s f g same (Value v) all = ap (λ (x : ValueTree). leaf item (value x)) (s.values v all)

pub items_of-agree : (P : Key → Type 0) (f g : ItemKind → ItemTree) → ((i : ItemKind) → Each P (item_keys i) → f i ≡ g i) → (es : List (Text × ItemKind)) → Each P (named_keys item_keys es) → items_of f es ≡ items_of g es
items_of-agree P f g same [] all = refl
items_of-agree P f g same (e ∷ es) all =
    let first = same e.1 (Each-left P (item_keys e.1) (named_keys item_keys es) all) in
    let others = items_of-agree P f g same es (Each-right P (item_keys e.1) (named_keys item_keys es) all) in
    rw (first, others) refl

pub interface_externs-agree : (P : Key → Type 0) (f g : ItemKind → ItemTree) → ((i : ItemKind) → Each P (item_keys i) → f i ≡ g i) → (e : InterfaceContent) → Each P (interface_keys e) → interface_externs f e ≡ interface_externs g e
interface_externs-agree P f g same e all =
    let es = items_of-agree P f g same e.exports (Each-right P (named_keys use_keys e.uses) (named_keys item_keys e.exports) all) in
    λ i. record { imports = no_items; exports = es i }

pub world_externs-agree : (P : Key → Type 0) (f g : ItemKind → ItemTree) → ((i : ItemKind) → Each P (item_keys i) → f i ≡ g i) → (e : WorldContent) → Each P (world_keys e) → world_externs f e ≡ world_externs g e
world_externs-agree P f g same e all =
    let front = Each-left P (named_keys use_keys e.uses ++ named_keys item_keys e.imports) (named_keys item_keys e.exports) all in
    let is = items_of-agree P f g same e.imports (Each-right P (named_keys use_keys e.uses) (named_keys item_keys e.imports) front) in
    let es = items_of-agree P f g same e.exports (Each-right P (named_keys use_keys e.uses ++ named_keys item_keys e.imports) (named_keys item_keys e.exports) all) in
    λ i. record { imports = is i; exports = es i }

pub entry_externs-agree : (c d : Collection) (P : Key → Type 0) → SameLeaves c d P → Agrees (entry_externs c) (entry_externs d) P
entry_externs-agree c d P s f g same (interface_entry e) all = interface_externs-agree P (item_tree_by c f) (item_tree_by d g) (item_tree_by-agree c d P s f g same) e all
entry_externs-agree c d P s f g same (world_entry e) all = world_externs-agree P (item_tree_by c f) (item_tree_by d g) (item_tree_by-agree c d P s f g same) e all
entry_externs-agree c d P s f g same (defined_entry e) all = refl
entry_externs-agree c d P s f g same (resource_entry e) all = refl
entry_externs-agree c d P s f g same (func_entry e) all = refl
entry_externs-agree c d P s f g same (module_entry e) all = refl

pub SameLeaves-refl : (c : Collection) (P : Key → Type 0) → SameLeaves c c P
SameLeaves-refl c P = record { names = λ r _. refl; values = λ v _. refl; funcs = λ f _. refl; modules = λ m _. refl }

pub entry_externs-local : (c : Collection) (P : Key → Type 0) → Agrees (entry_externs c) (entry_externs c) P
entry_externs-local c P = entry_externs-agree c c P (SameLeaves-refl c P)

-- in a sound collection

pub root_name-entry : (c : Collection) (r : Id) (e : ResourceContent) → IsSound c → Stands c (resource_key r) → slice_get c.resources r.index ≡ Some e → root_name c r ≡ content_name (root_name c) e
root_name-entry c r e s st is =
    unfolded-entry [] entry_name entry_name-local c (resource_key r) (resource_entry e) s st (slice_get-map resource_entry c.resources r.index ∙ ap (option_map resource_entry) is)

pub value_tree-entry : (c : Collection) (p : Id) (e : DefinedContent) → IsSound c → Stands c (defined_key p) → slice_get c.defined p.index ≡ Some e → value_tree c (Defined p) ≡ content_tree (value_tree c) e
value_tree-entry c p e s st is =
    unfolded-entry (node tuple no_parts) (entry_value c) (entry_value-local c) c (defined_key p) (defined_entry e) s st (slice_get-map defined_entry c.defined p.index ∙ ap (option_map defined_entry) is)

pub func_tree-entry : (c : Collection) (p : Id) (e : FuncContent) → slice_get c.funcs p.index ≡ Some e → func_tree c p ≡ func_content_tree c e
func_tree-entry c p e is = rw is refl

pub module_tree-entry : (c : Collection) (p : Id) (e : ModuleTree) → slice_get c.modules p.index ≡ Some e → module_tree c p ≡ e
module_tree-entry c p e is = rw is refl

pub interface-externs : (c : Collection) (p : Id) (e : InterfaceContent) → IsSound c → Stands c (interface_key p) → slice_get c.interfaces p.index ≡ Some e → externs c (interface_key p) ≡ interface_externs (item_tree c) e
interface-externs c p e s st is =
    unfolded-entry (record { imports = no_items; exports = no_items }) (entry_externs c) (entry_externs-local c) c (interface_key p) (interface_entry e) s st (slice_get-map interface_entry c.interfaces p.index ∙ ap (option_map interface_entry) is)

pub world-externs : (c : Collection) (p : Id) (e : WorldContent) → IsSound c → Stands c (world_key p) → slice_get c.worlds p.index ≡ Some e → externs c (world_key p) ≡ world_externs (item_tree c) e
world-externs c p e s st is =
    unfolded-entry (record { imports = no_items; exports = no_items }) (entry_externs c) (entry_externs-local c) c (world_key p) (world_entry e) s st (slice_get-map world_entry c.worlds p.index ∙ ap (option_map world_entry) is)

pub FollowsEntries-sound : (c : Collection) → IsSound c → FollowsEntries c
FollowsEntries-sound c s = record {
  names = λ p e st is. root_name-entry c p e s st is;
  values = λ p e st is. value_tree-entry c p e s st is;
  funcs = λ p e is. ap (λ (f : FuncTree). leaf item (func f)) (func_tree-entry c p e is);
  instances = λ p e st is. ap (λ (x : Externs). composite item interface no_items x.exports) (interface-externs c p e s st is);
  components = λ p e st is. ap (λ (x : Externs). composite item world x.imports x.exports) (world-externs c p e s st is);
  modules = λ p e is. ap (λ (m : ModuleTree). core_module item m) (module_tree-entry c p e is);
}
