use Rattle.std.specs.Prelude.{◌==◌, ◌&&◌, Bool, ℕ}

-- which entry of which collection: the number of the collection, and
-- the index in the list of its sort
pub record Id : Type 0 where
  pub number : ℕ
  pub index : ℕ

-- two ids of one sort are one
abbrev pub is_same : Id → Id → Bool
is_same p q = (p.number == q.number) && (p.index == q.index)
