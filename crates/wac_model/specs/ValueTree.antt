-- What a value type of the Component Model is (explainer, "Type Definitions", `defvaltype`), as a
-- tree: no name of an alias is left in it, and a resource stands in it by its name.
use Rattle.std.specs.Prelude.{ℕ, suc, zero, List, [], ◌∷◌, Bool, Option, Some, None}
use Rattle.wac_model.specs.declared.primitive.PrimitiveType.{PrimitiveType}
use Rattle.wac_model.specs.Text.{Text}

-- what a value type is, but for its parts
pub data ValueLabel : Type 0 where
  primitive : (of : PrimitiveType) → ValueLabel
  borrow : (resource : Text) → ValueLabel
  own : (resource : Text) → ValueLabel
  tuple : ValueLabel
  list : ValueLabel
  fixed_size_list : (size : ℕ) → ValueLabel
  -- of a key and a value
  map_of : ValueLabel
  option : ValueLabel
  -- whether there is a type for `ok`, and one for `err`
  result_of : (ok err : Bool) → ValueLabel
  -- each case's name, and whether it has a type
  variant : (cases : List (Text × Bool)) → ValueLabel
  record_of : (fields : List Text) → ValueLabel
  flags : (names : List Text) → ValueLabel
  enum : (names : List Text) → ValueLabel
  -- whether there is a payload
  stream : (payload : Bool) → ValueLabel
  future : (payload : Bool) → ValueLabel
  deriving Discrete as ValueLabel-discrete

-- a value type: its label, and its parts in order
mutual
  pub data ValueTree : Type 0 where
    node : (label : ValueLabel) → (parts : ValueTrees) → ValueTree
    deriving Discrete as ValueTree-discrete

  pub data ValueTrees : Type 0 where
    no_parts : ValueTrees
    part : (first : ValueTree) → (others : ValueTrees) → ValueTrees
    deriving Discrete as ValueTrees-discrete

-- a list of trees, as parts
abbrev pub parts_of : List ValueTree → ValueTrees
parts_of [] = no_parts
parts_of (t ∷ ts) = part t (parts_of ts)

-- the part at a place
abbrev pub part_at : ValueTrees → ℕ → Option ValueTree
part_at no_parts i = None
part_at (part t ts) zero = Some t
part_at (part t ts) (suc i) = part_at ts i

-- the number of parts
abbrev pub part_count : ValueTrees → ℕ
part_count no_parts = 0
part_count (part t ts) = suc (part_count ts)

-- a function type (explainer, `functype`), whose parameters have an order
pub record FuncTree : Type 0 where
  pub params : List (Text × ValueTree)
  pub «result» : Option ValueTree
  pub is_async : Bool
