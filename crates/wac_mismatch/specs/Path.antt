-- A path: frames that lead from a place to one where the fault holds.
use Rattle.std.specs.Prelude.{◌≡◌, List, [], ◌∷◌, Some}
use Rattle.wac_model.specs.ItemTree.{leaf, core_module, composite}
use Rattle.wac_mismatch.specs.Place.{Side, item_side, core_side, value_side, absent, Place, place, turned}
use Rattle.wac_mismatch.specs.Part.{part_of}
use Rattle.wac_mismatch.specs.Holds.{Holds}
use Rattle.wac_mismatch.specs.declared.frame.Frame.{Frame}
use Rattle.wac_mismatch.specs.declared.frame.Frame.TheVariants.{Export, Import, CoreImport}
use Rattle.wac_mismatch.specs.declared.fault.Fault.{Fault}
use Rattle.wac_mismatch.specs.declared.error.SubtypeError.{SubtypeError}
use Rattle.wac_mismatch.specs.declared.error.SubtypeError.TheVariants.{Mismatch, Memory}
use Rattle.wac_mismatch.specs.declared.check.SubtypeCheck.{SubtypeCheck}
use Rattle.wac_mismatch.specs.declared.check.SubtypeCheck.TheVariants.{Covariant}

-- an import is asked for of the right side by the left one: the sides change
-- places, and the direction turns
abbrev pub entered : Frame → Place → Place
entered (Import n) p = place (turned p.check) p.right p.left
entered (CoreImport m n) p = place (turned p.check) p.right p.left
entered f p = p

-- the exports of core modules are checked covariantly, whatever the direction
abbrev pub check_below : Frame → Side → SubtypeCheck → SubtypeCheck
check_below (Export n) (item_side (core_module k m)) c = Covariant
check_below f a c = c

-- two sides of one case: items of one kind, and composites of one shape
abbrev pub AreAlike : Side → Side → Type 0
AreAlike (item_side (leaf k x)) (item_side (leaf k' y)) = k ≡ k'
AreAlike (item_side (core_module k m)) (item_side (core_module k' n)) = k ≡ k'
AreAlike (item_side (composite k s is es)) (item_side (composite k' s' is' es')) = (k ≡ k') × (s ≡ s')
AreAlike (core_side a) (core_side b) = Unit {0}
AreAlike (value_side t) (value_side u) = Unit {0}
AreAlike absent absent = Unit {0}
AreAlike a b = ⊥

-- from a place to the place below it: the sides are alike, and both
-- have the part that the frame names
pub record Leads (frame : Frame) (above below : Place) : Type 0 where
  pub alike : AreAlike above.left above.right
  pub left : part_of frame (entered frame above).left ≡ Some below.left
  pub right : part_of frame (entered frame above).right ≡ Some below.right
  pub same_check : below.check ≡ check_below frame above.left (entered frame above).check

abbrev pub Path : List Frame → Fault → Place → Type 0
Path [] f p = Holds f p
Path (frame ∷ frames) f p = (below : Place) × Leads frame p below × Path frames f below

-- a mismatch has a path from the two sides; nothing is said where an allocation failed
abbrev pub Explains : SubtypeError → SubtypeCheck → Side → Side → Type 0
Explains (Mismatch frames f) c a b = Path frames.items f (place c a b)
Explains Memory c a b = Unit {0}

-- a mismatch says that the fact doesn't hold; nothing is said where an allocation failed
abbrev pub Refutes : SubtypeError → Type 0 → Type 0
Refutes (Mismatch frames f) P = P → ⊥
Refutes Memory P = Unit {0}
