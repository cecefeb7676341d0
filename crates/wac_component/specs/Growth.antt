-- A collection that was only added to.
use Rattle.std.specs.Prelude.{◌≡◌, List, [], ◌∷◌, ◌++◌}
use Rattle.wac_component.specs.Collection.{Collection}
use Rattle.wac_component.specs.Key.{Key, Sort, Entry, defined_entry, resource_entry, func_entry, interface_entry, world_entry, module_entry, entries, entry_at, Stands, AllStand, item_keys}
use Rattle.wac_component.specs.Height.{height}
use Rattle.wac_component.specs.Tree.{item_tree}
use Rattle.wac_component.specs.declared.items.ItemKind.{ItemKind}

-- ys begins with xs
abbrev pub BeginsWith : {A : Type 0} → List A → List A → Type 0
BeginsWith {A} ys xs = (zs : List A) × (ys ≡ xs ++ zs)

-- the lists of d begin with those of c; what stood in c stands in d, with its entry, as
-- high as it was, and with its tree
pub record Extends (c d : Collection) : Type 0 where
  pub number : d.number ≡ c.number
  pub lists : (s : Sort) → BeginsWith (entries d s) (entries c s)
  pub standing : (k : Key) → Stands c k → Stands d k
  pub same_entry : (k : Key) → Stands c k → entry_at d k ≡ entry_at c k
  pub heights : (k : Key) → Stands c k → height d k ≡ height c k
  pub trees : (i : ItemKind) → AllStand c (item_keys i) → item_tree d i ≡ item_tree c i

-- the collection with one entry more, last in the list of its sort
abbrev pub with_entry : Collection → Entry → Collection
with_entry c (defined_entry e) = record c { defined = c.defined ++ e ∷ [] }
with_entry c (resource_entry e) = record c { resources = c.resources ++ e ∷ [] }
with_entry c (func_entry e) = record c { funcs = c.funcs ++ e ∷ [] }
with_entry c (interface_entry e) = record c { interfaces = c.interfaces ++ e ∷ [] }
with_entry c (world_entry e) = record c { worlds = c.worlds ++ e ∷ [] }
with_entry c (module_entry e) = record c { modules = c.modules ++ e ∷ [] }
