-- Two lists of parts in one.
use Rattle.std.specs.Prelude.{List}
use Rattle.wac_checker_parts.specs.declared.parts.PairPart.{PairPart}

-- the parts of the pairs that are open, and those that are being named of one more
pub record PartLists : Type 0 where
  pub before : List PairPart
  pub items : List PairPart
