-- The parts of value types and functions, in the order in which they are compared.
use Rattle.std.specs.Prelude.{◌≡◌, ◌<◌, ◌≤◌, ◌+◌, ◌^◌, ℕ, zero, suc, List, [], ◌∷◌, ◌++◌, map, length, Bool, true, false, Option, Some, None, slice_get}
use Rattle.wac_model.specs.Text.{Text}
use Rattle.wac_model.specs.ValueTree.{ValueTree, ValueTrees, FuncTree, node, no_parts, part, tuple, list, fixed_size_list, map_of, option, variant, record_of, result_of, stream, future}
use Rattle.wac_model.specs.ItemTree.{ItemTree, Items, leaf, func, no_items, named, item_at}
use Rattle.wac_model.specs.Order.{FitsAt}
use Rattle.wac_mismatch.specs.Place.{Side, item_side, value_side, place}
use Rattle.wac_mismatch.specs.Path.{Leads}
use Rattle.wac_mismatch.specs.Steps.{IsCase, IsField, IsParameter, IsExport, IsImportOf}
use Rattle.wac_mismatch.specs.declared.check.SubtypeCheck.{SubtypeCheck}
use Rattle.wac_mismatch.specs.declared.frame.Frame.{Frame}
use Rattle.wac_mismatch.specs.declared.frame.Frame.TheVariants as frame

-- parts with these names, and the types of those that have one
abbrev pub marked_parts : List (Text × Bool) → ValueTrees → List (Text × Option ValueTree)
marked_parts [] ts = []
marked_parts ((n, false) ∷ ms) ts = (n, None) ∷ marked_parts ms ts
marked_parts ((n, true) ∷ ms) no_parts = (n, None) ∷ marked_parts ms no_parts
marked_parts ((n, true) ∷ ms) (part t ts) = (n, Some t) ∷ marked_parts ms ts

-- parts without names
abbrev pub unnamed_parts : ValueTrees → List (Text × Option ValueTree)
unnamed_parts no_parts = []
unnamed_parts (part t ts) = ([], Some t) ∷ unnamed_parts ts

-- the parts of a value type: the name of each, and its type if it has one
abbrev pub value_parts : ValueTree → List (Text × Option ValueTree)
value_parts (node (variant cs) ts) = marked_parts cs ts
value_parts (node (record_of ns) ts) = marked_parts (map (λ n. (n, true)) ns) ts
value_parts (node (result_of o e) ts) = marked_parts (([], o) ∷ ([], e) ∷ []) ts
value_parts (node (stream p) ts) = marked_parts (([], p) ∷ []) ts
value_parts (node (future p) ts) = marked_parts (([], p) ∷ []) ts
value_parts (node l ts) = unnamed_parts ts

-- those of a function: its parameters, and its result
abbrev pub func_parts : FuncTree → List (Text × Option ValueTree)
func_parts f = map (λ p. (p.0, Some p.1)) f.params ++ ([], f.«result») ∷ []

abbrev pub side_parts : Side → List (Text × Option ValueTree)
side_parts (value_side t) = value_parts t
side_parts (item_side (leaf k (func f))) = func_parts f
side_parts s = []

-- there is a part at the place, and after it room for one more
abbrev pub IsIndex : Side → ℕ → Type 0
IsIndex s i = (i < length (side_parts s)) × (i + 1 < 2 ^ 64)

-- the parts at a place are one
abbrev pub SamePart : Side → Side → ℕ → Type 0
SamePart s t i = slice_get (side_parts s) i ≡ slice_get (side_parts t) i

-- the parts before a place are one
abbrev pub SameBefore : Side → Side → ℕ → Type 0
SameBefore s t i = (j : ℕ) → j < i → SamePart s t j

-- the frame to the part at a place of a value type
abbrev pub IsValueFrame : ValueTree → ℕ → Frame → Type 0
IsValueFrame (node tuple ts) i f = f ≡ frame.Item i
IsValueFrame (node list ts) i f = f ≡ frame.ListElement
IsValueFrame (node (fixed_size_list n) ts) i f = f ≡ frame.FixedSizeListElement
IsValueFrame (node map_of ts) zero f = f ≡ frame.MapKey
IsValueFrame (node map_of ts) (suc i) f = f ≡ frame.MapValue
IsValueFrame (node option ts) i f = f ≡ frame.Option
IsValueFrame (node (result_of o e) ts) zero f = f ≡ frame.Ok
IsValueFrame (node (result_of o e) ts) (suc i) f = f ≡ frame.Err
IsValueFrame (node (variant cs) ts) i f = (n : Text) × (slice_get (map (λ c. c.0) cs) i ≡ Some n) × IsCase n f
IsValueFrame (node (record_of ns) ts) i f = (n : Text) × (slice_get ns i ≡ Some n) × IsField n f
IsValueFrame (node (stream p) ts) i f = f ≡ frame.StreamPayload
IsValueFrame (node (future p) ts) i f = f ≡ frame.FuturePayload
IsValueFrame t i f = ⊥

-- the frame to the part at a place of a function
abbrev pub IsFuncFrame : FuncTree → ℕ → Frame → Type 0
IsFuncFrame t i f = (i < length t.params → (n : Text) × (slice_get (map (λ p. p.0) t.params) i ≡ Some n) × IsParameter n f) × (length t.params ≤ i → f ≡ frame.FuncResult)

-- the frame to the part at a place of a side
abbrev pub IsFrameAt : Side → ℕ → Frame → Type 0
IsFrameAt (value_side t) i f = IsValueFrame t i f
IsFrameAt (item_side (leaf k (func t))) i f = IsFuncFrame t i f
IsFrameAt s i f = ⊥

-- a frame to the parts at a place leads to these types
abbrev pub AreLedTo : Side → Side → ℕ → ValueTree → ValueTree → Type 0
AreLedTo s t i x y = (c : SubtypeCheck) (f : Frame) → IsFrameAt s i f → Leads f (place c s t) (place c (value_side x) (value_side y))

-- at a place are parts of one name, of these types, to which a frame leads
abbrev pub AreAt : Side → Side → ℕ → ValueTree → ValueTree → Type 0
AreAt s t i x y = (n : Text) × (slice_get (side_parts s) i ≡ Some (n, Some x)) × (slice_get (side_parts t) i ≡ Some (n, Some y)) × AreLedTo s t i x y

-- ---- of interfaces and worlds

-- named items in order
abbrev pub listed : Items → List (Text × ItemTree)
listed no_items = []
listed (named n t ts) = (n, t) ∷ listed ts

-- what is asked for at a place is there, and fits
abbrev pub IsServedAt : Items → Items → ℕ → Type 0
IsServedAt given asked i = (n : Text) (t : ItemTree) → slice_get (listed asked) i ≡ Some (n, t) → FitsAt (item_at given n) (Some t)

-- the frame to the exports, or the imports, of the name at a place
abbrev pub IsExportFrame : Items → ℕ → Frame → Type 0
IsExportFrame es i f = (n : Text) × (t : ItemTree) × (slice_get (listed es) i ≡ Some (n, t)) × IsExport n f

abbrev pub IsImportFrame : Items → ℕ → Frame → Type 0
IsImportFrame is i f = (n : Text) × (t : ItemTree) × (slice_get (listed is) i ≡ Some (n, t)) × IsImportOf n f
