-- The limits of core externs.
use Rattle.std.specs.Prelude.{Option, Some, None}
use Rattle.wac_model.specs.CoreTree.{Limits, CoreLabel, LimitedLabel, CoreTree, plain, limited}
use Rattle.wac_core_merge.specs.declared.limits.LimitsType.{LimitsType}

abbrev pub limits_tree : LimitsType → Limits
limits_tree l = record { initial = l.initial; maximum = l.maximum }

-- a core extern, but for its limits
pub data Label : Type 0 where
  of_plain : (label : CoreLabel) → Label
  of_limited : (label : LimitedLabel) → Label

abbrev pub label_of : CoreTree → Label
label_of (plain k) = of_plain k
label_of (limited k l) = of_limited k

-- its limits, if it has some
abbrev pub limits_of : CoreTree → Option Limits
limits_of (plain k) = None
limits_of (limited k l) = Some l

-- with these limits, if it has some
abbrev pub with_limits : CoreTree → Limits → CoreTree
with_limits (plain k) m = plain k
with_limits (limited k l) m = limited k m
