-- Where two items that have no meet clash, and what is said there.
use Rattle.std.specs.Prelude.{◌≡◌, ◌++◌, List, [], ◌∷◌, Option, None, Some, string_bytes}
use Rattle.std.specs.Str.{bytes_eq}
use Rattle.std.specs.declared.string.String.{String}
use Rattle.std.specs.declared.alloc.Global.{Global}
use Rattle.wac_model.specs.Text.{Text, lookup}
use Rattle.wac_model.specs.CoreTree.{CoreTree}
use Rattle.wac_model.specs.ItemTree.{ItemTree, core_module, composite, item_at}
use Rattle.wac_bounds.specs.Bounds.{IsLowerBound}
use Rattle.wac_bounds.specs.MeetIn.{IsMeetIn}
use Rattle.wac_bounds.specs.Valid.{ValidFits}
use Rattle.wac_mismatch.specs.Holds.{Holds}
use Rattle.wac_mismatch.specs.Path.{AreAlike, Explains}
use Rattle.wac_mismatch.specs.Place.{Side, item_side, core_side, place}
use Rattle.wac_mismatch.specs.Steps.{IsHere}
use Rattle.wac_mismatch.specs.declared.check.SubtypeCheck.{SubtypeCheck}
use Rattle.wac_mismatch.specs.declared.check.SubtypeCheck.TheVariants.{Covariant}
use Rattle.wac_mismatch.specs.declared.error.SubtypeError.{SubtypeError}
use Rattle.wac_mismatch.specs.declared.error.SubtypeError.TheVariants.{Mismatch as Disagree, Memory}
use Rattle.wac_aggregator_errors.specs.declared.error.AggregateError.{AggregateError}
use Rattle.wac_aggregator_errors.specs.declared.error.AggregateError.TheVariants.{Mismatch}
use Rattle.wac_aggregator_errors.specs.declared.frame.MergeFrame.{MergeFrame}
use Rattle.wac_aggregator_errors.specs.declared.frame.MergeFrame.TheVariants.{Export}

-- no item fits where both are asked for
abbrev pub AreApart : ItemTree → ItemTree → Type 0
AreApart a b = (t : ItemTree) → ¬ (IsLowerBound t (a ∷ b ∷ []))

-- the same of core externs that are valid
abbrev pub AreCoresApart : CoreTree → CoreTree → Type 0
AreCoresApart a b = IsMeetIn ValidFits a b None

-- what an interface or a world exports under a name
abbrev pub export_of : ItemTree → Text → Option ItemTree
export_of (composite k s is es) n = item_at es n
export_of t n = None

-- what a core module exports under a name
abbrev pub core_export_of : ItemTree → Text → Option CoreTree
core_export_of (core_module k m) n = lookup bytes_eq m.content.exports n
core_export_of t n = None

-- the types disagree
abbrev pub IsNo : SubtypeError → Type 0
IsNo (Disagree frames fault) = Unit {0}
IsNo Memory = ⊥

-- the error is a checker's no to the left side where the right one is asked for
abbrev pub SaysNo : SubtypeError → SubtypeCheck → Side → Side → Type 0
SaysNo e c a b = IsNo e × Explains e c a b

-- the same of two exports of core modules, which are checked covariantly
abbrev pub SaysOfCores : SubtypeError → CoreTree → CoreTree → Type 0
SaysOfCores e a b = IsNo e × IsHere (λ f. Holds f (place Covariant (core_side a) (core_side b))) e

-- of two items of one case, no exports of one name are apart
abbrev pub HasNoClash : ItemTree → ItemTree → Type 0
HasNoClash a b = AreAlike (item_side a) (item_side b) → (n : Text) (x y : ItemTree) → export_of a n ≡ Some x → export_of b n ≡ Some y → ¬ (AreApart x y)

-- the same of core modules
abbrev pub HasNoCoreClash : ItemTree → ItemTree → Type 0
HasNoCoreClash a b = AreAlike (item_side a) (item_side b) → (n : Text) (x y : CoreTree) → core_export_of a n ≡ Some x → core_export_of b n ≡ Some y → ¬ (AreCoresApart x y)

-- the frames lead on from two items that have no meet, from exports of one name to exports of one
-- name that have none, to the innermost, and the error is what is said of these
pub data ClashesAt (c : SubtypeCheck) (e : SubtypeError) : List MergeFrame → ItemTree → ItemTree → Type 0 where
  here : {a b : ItemTree} → HasNoClash a b → HasNoCoreClash a b → SaysNo e c (item_side a) (item_side b) → ClashesAt c e [] a b
  in_modules : {a b : ItemTree} (name : String Global) (x y : CoreTree) → AreAlike (item_side a) (item_side b)
      → core_export_of a (string_bytes name) ≡ Some x → core_export_of b (string_bytes name) ≡ Some y → AreCoresApart x y → SaysOfCores e x y
      → ClashesAt c e (Export name ∷ []) a b
  below : {a b : ItemTree} (name : String Global) (x y : ItemTree) (frames : List MergeFrame) → AreAlike (item_side a) (item_side b)
      → export_of a (string_bytes name) ≡ Some x → export_of b (string_bytes name) ≡ Some y → AreApart x y → ClashesAt c e frames x y
      → ClashesAt c e (Export name ∷ frames) a b

-- a mismatch whose frames are these and more, of which and of whose error the fact holds
abbrev pub IsMismatch : List MergeFrame → (List MergeFrame → SubtypeError → Type 0) → AggregateError → Type 0
IsMismatch before P (Mismatch frames e) = (more : List MergeFrame) × (frames.items ≡ before ++ more) × P more e
IsMismatch before P e = ⊥
