-- The order on items (Component Model explainer, "Type Checking" and "Subtyping"): what
-- fits where another is asked for.
use Rattle.std.specs.Prelude.{Option, Some, None}
use Rattle.wac_model.specs.Text.{Text}
use Rattle.wac_model.specs.CoreTree.{ModuleTree, ModuleFits}
use Rattle.wac_model.specs.ItemTree.{Kind, Leaf, Shape, ItemTree, Items, leaf, core_module, composite, item_at}

-- a fits where b is asked for: the same sort of thing, which exports what b
-- does and imports no more than b
mutual
  pub data Fits : ItemTree → ItemTree → Type 0 where
    leaves : {k : Kind} {l : Leaf} → Fits (leaf k l) (leaf k l)
    modules : {k : Kind} {a b : ModuleTree} → ModuleFits a.content b.content → Fits (core_module k a) (core_module k b)
    composites : {k : Kind} {s : Shape} {i j e f : Items}
        → (exports : (n : Text) → FitsAt (item_at e n) (item_at f n))
        → (imports : (n : Text) → FitsAt (item_at j n) (item_at i n))
        → Fits (composite k s i e) (composite k s j f)

  -- one that is asked for is there, and fits
  pub data FitsAt : Option ItemTree → Option ItemTree → Type 0 where
    not_asked : {a : Option ItemTree} → FitsAt a None
    there : {a b : ItemTree} → Fits a b → FitsAt (Some a) (Some b)
