-- What an item of a component is (Component Model explainer, "Type
-- Definitions", `externtype`), as a tree.
use Rattle.std.specs.Prelude.{Option, Some, None, if◌then◌else◌}
use Rattle.std.specs.Str.{bytes_eq}
use Rattle.wac_model.specs.Text.{Text}
use Rattle.wac_model.specs.ValueTree.{ValueTree, FuncTree}
use Rattle.wac_model.specs.CoreTree.{ModuleTree}

-- an item, or the type of one
pub data Kind : Type 0 where
  item : Kind
  type_item : Kind
  deriving Discrete as Kind-discrete

-- an item with no items below it
pub data Leaf : Type 0 where
  resource : (name : Text) → Leaf
  func : (of : FuncTree) → Leaf
  value : (of : ValueTree) → Leaf
  deriving Discrete as Leaf-discrete

-- an interface (an instance type), or a world (a component type)
pub data Shape : Type 0 where
  interface : Shape
  world : Shape
  deriving Discrete as Shape-discrete

-- an item, with what it imports and exports; an interface imports nothing
mutual
  pub data ItemTree : Type 0 where
    leaf : (kind : Kind) → (of : Leaf) → ItemTree
    core_module : (kind : Kind) → (of : ModuleTree) → ItemTree
    composite : (kind : Kind) → (shape : Shape) → (imports exports : Items) → ItemTree

  pub data Items : Type 0 where
    no_items : Items
    named : (name : Text) → (tree : ItemTree) → (others : Items) → Items

-- the item of a name
abbrev pub item_at : Items → Text → Option ItemTree
item_at no_items n = None
item_at (named m t ts) n = if bytes_eq n m then Some t else item_at ts n
