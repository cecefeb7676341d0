-- Where the components of a world run (the report of `validate_target`): as entries of a collection, and as trees.
use Rattle.std.specs.Prelude.{◌≡◌, List, [], ◌∷◌, IsSome, Some}
use Rattle.wac_component.specs.Collection.{Collection, WorldContent}
use Rattle.wac_component.specs.Id.{Id}
use Rattle.wac_component.specs.Implicit.{implicit_imports}
use Rattle.wac_component.specs.Key.{world_key}
use Rattle.wac_component.specs.Tree.{externs, item_tree, world_externs}
use Rattle.wac_component.specs.declared.items.ItemKind.{ItemKind}
use Rattle.wac_component.specs.declared.worlds.ExternKind.{ExternKind}
use Rattle.wac_component.specs.declared.worlds.ExternKind.TheVariants.{Import, Export}
use Rattle.wac_types.specs.ItemTree.{Items, ItemTree, composite, func, item, leaf, named, no_items, type_item}
use Rattle.wac_types.specs.Order.{Fits}
use Rattle.wac_types.specs.Pairs.{IsFound, value_at}
use Rattle.wac_types.specs.Report.{Misfits, world_content_of}
use Rattle.wac_types.specs.Text.{Text}
use Rattle.wac_types.specs.Wanted.{Lacks, wanted, given}

-- ---- trees

-- the items of a name list
abbrev pub entries_in : Items → List (Text × ItemTree)
entries_in no_items = []
entries_in (named n t is) = (n, t) ∷ entries_in is

-- what a world's tree imports, and what it exports
abbrev pub externs_in : ExternKind → ItemTree → List (Text × ItemTree)
externs_in Import (composite k s is es) = entries_in is
externs_in Export (composite k s is es) = entries_in es
externs_in k t = []

-- the type of a function, an interface or a world is meant as an item of it; all else stays
abbrev pub promoted_tree : ItemTree → ItemTree
promoted_tree (leaf type_item (func f)) = leaf item (func f)
promoted_tree (composite type_item s is es) = composite item s is es
promoted_tree t = t

-- what is found under the name, by its track, is so
pub record FindsWith (ps : List (Text × ItemTree)) (name : Text) (Has : ItemTree → Type 0) : Type 0 where
  pub tree : ItemTree
  pub found : IsFound ps name (Some tree)
  pub has : Has tree

-- a component that imports and exports all of one world runs where the other is the target: the target has each of its
-- imports, it has each of the target's exports, and what is there fits
pub record TreeRunsIn (component target : ItemTree) : Type 0 where
  pub imports : (n : Text) (b : ItemTree) → value_at (externs_in Import component) n ≡ Some b → FindsWith (externs_in Import target) n (λ a. Fits (promoted_tree a) b)
  pub exports : (n : Text) (b : ItemTree) → value_at (externs_in Export target) n ≡ Some b → FindsWith (externs_in Export component) n (λ a. Fits a (promoted_tree b))

-- ---- entries

-- the same of the contents of worlds: nothing is lacking of what the component imports and of what the target exports, and
-- what is there fits. A target has what it implies, too
pub record RunsWhere (types : Collection) (target component : WorldContent) : Type 0 where
  pub there : (k : ExternKind) (name : Text) (b : ItemKind) → Lacks (given types target component k) (wanted types target component k) name b → ⊥
  pub fits : (k : ExternKind) (name : Text) → Misfits types target component k name → ⊥

-- of two worlds of a collection, components of the first run where the second is the target
abbrev pub RunsIn : Collection → Id → Id → Type 0
RunsIn types component target = RunsWhere types (world_content_of types target) (world_content_of types component)

-- a world imports each interface that it uses, so that it implies no more than its tree has
abbrev pub ImportsAllUsed : Collection → WorldContent → Type 0
ImportsAllUsed types w = (name : Text) → IsSome (value_at (implicit_imports types w) name) → IsSome (value_at w.imports name)

-- this is what the world of the id says, and its tree is that of what it says
pub record IsStandingWorld (types : Collection) (id : Id) (w : WorldContent) : Type 0 where
  pub content : world_content_of types id ≡ w
  pub trees : externs types (world_key id) ≡ world_externs (item_tree types) w
