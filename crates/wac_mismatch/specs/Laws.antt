-- The laws of paths.
use Rattle.std.specs.Prelude.{List}
use Rattle.wac_mismatch.specs.Place.{Place, SideFits}
use Rattle.wac_mismatch.specs.Path.{Path}
use Rattle.wac_mismatch.specs.declared.frame.Frame.{Frame}
use Rattle.wac_mismatch.specs.declared.fault.Fault.{Fault}

-- where there is a path, the left side doesn't fit where the right one is asked for
abbrev pub APathRefutes : Type 0
APathRefutes = (frames : List Frame) (f : Fault) (p : Place) → Path frames f p → SideFits p.left p.right → ⊥
