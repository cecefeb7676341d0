-- Pairs of entries, and what is left to compare of two.
use Rattle.std.specs.Str.{bytes_eq}
use Rattle.wac_model.specs.Text.{Text, lookup}
use Rattle.wac_model.specs.Order.{Fits}
use Rattle.wac_component.specs.declared.items.ItemKind.{ItemKind}
use Rattle.std.specs.Prelude.{◌≡◌, ◌+◌, ◌-◌, ◌^◌, ◌<◌, ◌≤◌, ℕ, List, [], ◌∷◌, Contains, length, Bool, true, false, not, Option, Some, None, slice_get}
use Rattle.wac_model.specs.ItemTree.{Kind, item, leaf, core_module, composite, no_items, resource, func, interface, world}
use Rattle.wac_component.specs.Id.{Id}
use Rattle.wac_component.specs.Collection.{Collection}
use Rattle.wac_component.specs.Height.{height, keys_height}
use Rattle.wac_component.specs.Key.{Key, Sort, func_key, module_key, item_keys, defined_sort, resource_sort, func_sort, interface_sort, world_sort, module_sort, Stands, defined_key, interface_key, world_key, value_keys}
use Rattle.wac_component.specs.Tree.{item_tree, value_tree, func_tree, module_tree, root_name, externs, IsResolved}
use Rattle.wac_component.specs.declared.items.ValueType.{ValueType}
use Rattle.wac_component.specs.declared.items.ValueType.TheVariants.{Defined}
use Rattle.wac_mismatch.specs.Place.{Side, value_side, item_side, place, turned, SideFits}
use Rattle.wac_mismatch.specs.Path.{Path, Explains}
use Rattle.wac_mismatch.specs.declared.check.SubtypeCheck.{SubtypeCheck}
use Rattle.wac_mismatch.specs.declared.error.SubtypeError.{SubtypeError}
use Rattle.wac_mismatch.specs.declared.fault.Fault.{Fault}
use Rattle.wac_mismatch.specs.declared.frame.Frame.{Frame}
use Rattle.wac_checker_parts.specs.Parts.{IsIndex, SamePart, SameBefore, AreAt, IsFrameAt, side_parts, listed, IsServedAt, IsExportFrame, IsImportFrame}
use Rattle.wac_checker_parts.specs.declared.parts.EntryPair.{EntryPair}
use Rattle.wac_checker_parts.specs.declared.parts.PairSort.{PairSort}
use Rattle.wac_checker_parts.specs.declared.parts.PairSort.TheVariants as sort

-- ---- two entries

-- two entries of one sort, by their ids: the left one is asked about, the right one asked for
pub data Entries : Type 0 where
  DefinedTypes : (a b : Id) → Entries
  Funcs : (a b : Id) → Entries
  Interfaces : (a b : Id) → Entries
  Worlds : (a b : Id) → Entries
  Modules : (a b : Id) → Entries

-- two entries, and whether they are swapped: then the left one is of the right collection
pub record Two : Type 0 where
  pub entries : Entries
  pub swapped : Bool

-- what is found of the parts at a place: that there are no more, that they fit, or that they fit if
-- two entries do, which are told from the two that have the parts
pub data Finding : Type 0 where
  End : Finding
  Same : Finding
  Below : (two : Two) → Finding

abbrev pub left_key : Entries → Key
left_key (DefinedTypes a b) = defined_key a
left_key (Funcs a b) = func_key a
left_key (Interfaces a b) = interface_key a
left_key (Worlds a b) = world_key a
left_key (Modules a b) = module_key a

abbrev pub right_key : Entries → Key
right_key (DefinedTypes a b) = defined_key b
right_key (Funcs a b) = func_key b
right_key (Interfaces a b) = interface_key b
right_key (Worlds a b) = world_key b
right_key (Modules a b) = module_key b

-- what an entry stands for, as an item or as the type of one
abbrev pub sort_side : Kind → Collection → Sort → Id → Side
sort_side k c defined_sort p = value_side (value_tree c (Defined p))
sort_side k c resource_sort p = item_side (leaf k (resource (root_name c p)))
sort_side k c func_sort p = item_side (leaf k (func (func_tree c p)))
sort_side k c interface_sort p = item_side (composite k interface no_items (externs c (interface_key p)).exports)
sort_side k c world_sort p = item_side (composite k world (externs c (world_key p)).imports (externs c (world_key p)).exports)
sort_side k c module_sort p = item_side (core_module k (module_tree c p))

abbrev pub left_side : Kind → Collection → Entries → Side
left_side k c e = sort_side k c (left_key e).sort (left_key e).id

abbrev pub right_side : Kind → Collection → Entries → Side
right_side k d e = sort_side k d (right_key e).sort (right_key e).id

-- defined types are no aliases
abbrev pub AreResolved : Collection → Collection → Entries → Type 0
AreResolved c d (DefinedTypes a b) = IsResolved c (Defined a) × IsResolved d (Defined b)
AreResolved c d e = Unit {0}

abbrev pub EntriesStand : Collection → Collection → Entries → Type 0
EntriesStand c d e = Stands c (left_key e) × Stands d (right_key e) × AreResolved c d e

-- the left entry fits where the right one is asked for
abbrev pub EntriesFit : Collection → Collection → Entries → Type 0
EntriesFit c d e = (k : Kind) → SideFits (left_side k c e) (right_side k d e)

-- a no of the two is explained
abbrev pub ExplainsEntries : SubtypeCheck → Collection → Collection → Entries → SubtypeError → Type 0
ExplainsEntries check c d e r = (k : Kind) → Explains r check (left_side k c e) (right_side k d e)

-- these frames and this fault are a path from the two
abbrev pub EntriesPath : SubtypeCheck → Collection → Collection → Entries → List Frame → Fault → Type 0
EntriesPath check c d e frames f = (k : Kind) → Path frames f (place check (left_side k c e) (right_side k d e))

abbrev pub entries_height : Collection → Collection → Entries → ℕ
entries_height c d e = height c (left_key e) + height d (right_key e)

-- ---- what is left to compare

-- two value types are those of two defined types
abbrev pub AreOf : Collection → Collection → ValueType → ValueType → Entries → Type 0
AreOf c d v w (DefinedTypes x y) = (value_tree c v ≡ value_tree c (Defined x)) × (value_tree d w ≡ value_tree d (Defined y)) × EntriesStand c d (DefinedTypes x y) × (height c (defined_key x) ≤ keys_height c (value_keys v)) × (height d (defined_key y) ≤ keys_height d (value_keys w))
AreOf c d v w e = ⊥

-- two value types are one, or so far as two others are
abbrev pub AreValuesCompared : Collection → Collection → ValueType → ValueType → Finding → Type 0
AreValuesCompared c d v w End = ⊥
AreValuesCompared c d v w Same = value_tree c v ≡ value_tree d w
AreValuesCompared c d v w (Below q) = (q.swapped ≡ false) × AreOf c d v w q.entries

-- the parts at a place are those of two defined types, which are below these heights
abbrev pub HaveAt : Collection → Collection → Side → Side → ℕ → ℕ → ℕ → Entries → Type 0
HaveAt c d s t m n i (DefinedTypes x y) = AreAt s t i (value_tree c (Defined x)) (value_tree d (Defined y)) × EntriesStand c d (DefinedTypes x y) × (height c (defined_key x) < m) × (height d (defined_key y) < n)
HaveAt c d s t m n i e = ⊥

-- the parts at a place of two sides: there are no more, they are one, or so far as
-- two others are
abbrev pub IsValuePart : Collection → Collection → Side → Side → ℕ → ℕ → ℕ → Finding → Type 0
IsValuePart c d s t m n i End = SameBefore s t i → s ≡ t
IsValuePart c d s t m n i Same = IsIndex s i × SamePart s t i
IsValuePart c d s t m n i (Below q) = IsIndex s i × (q.swapped ≡ false) × HaveAt c d s t m n i q.entries

-- the same of what may be there
abbrev pub AreOptionsCompared : Collection → Collection → Option ValueType → Option ValueType → Finding → Type 0
AreOptionsCompared c d None None p = p ≡ Same
AreOptionsCompared c d (Some v) (Some w) p = AreValuesCompared c d v w p
AreOptionsCompared c d v w p = ⊥

-- two items are those of two entries, which are no higher: they fit where the entries do and only
-- there, and a path from these is one from them
pub record AreOfItems (c d : Collection) (x y : ItemKind) (e : Entries) : Type 0 where
  pub stand : EntriesStand c d e
  pub left_lower : height c (left_key e) ≤ keys_height c (item_keys x)
  pub right_lower : height d (right_key e) ≤ keys_height d (item_keys y)
  pub enough : EntriesFit c d e → Fits (item_tree c x) (item_tree d y)
  pub leads : (check : SubtypeCheck) (gs : List Frame) (g : Fault) → EntriesPath check c d e gs g → Path gs g (place check (item_side (item_tree c x)) (item_side (item_tree d y)))
  pub needed : Fits (item_tree c x) (item_tree d y) → EntriesFit c d e

-- these items have the name of what is asked for at a place
abbrev pub AreNamed : List (Text × ItemKind) → List (Text × ItemKind) → ℕ → Text → ItemKind → ItemKind → Type 0
AreNamed es ts i n x y = (lookup bytes_eq es n ≡ Some x) × (slice_get ts i ≡ Some (n, y)) × (lookup bytes_eq ts n ≡ Some y)

-- there is something asked for at the place, and after it room for one more
abbrev pub IsPlace : List (Text × ItemKind) → ℕ → Type 0
IsPlace ts i = (i < length ts) × (i + 1 < 2 ^ 63)

-- what is found of what is asked for at a place, and what is there of its name
abbrev pub IsExternPart : Collection → Collection → List (Text × ItemKind) → List (Text × ItemKind) → ℕ → Finding → Type 0
IsExternPart c d es ts i End = length ts ≤ i
IsExternPart c d es ts i Same = IsPlace ts i × ((n : Text) × (x : ItemKind) × (y : ItemKind) × AreNamed es ts i n x y × Fits (item_tree c x) (item_tree d y))
IsExternPart c d es ts i (Below q) = IsPlace ts i × (q.swapped ≡ false) × ((n : Text) × (x : ItemKind) × (y : ItemKind) × AreNamed es ts i n x y × AreOfItems c d x y q.entries)

-- what is found of two sides is found of the two the other way round
abbrev pub AreSwapped : Finding → Finding → Type 0
AreSwapped (Below q) (Below r) = (r.entries ≡ q.entries) × (r.swapped ≡ not q.swapped)
AreSwapped (Below q) p = ⊥
AreSwapped p r = r ≡ p

-- ---- the parts of two entries

-- how many imports a world has, which are its first parts
abbrev pub import_count : Collection → Id → ℕ
import_count c a = length (listed (externs c (world_key a)).imports)

-- the parts at a place fit
abbrev pub PartFits : Collection → Collection → Entries → ℕ → Type 0
PartFits c d (DefinedTypes a b) i = SamePart (value_side (value_tree c (Defined a))) (value_side (value_tree d (Defined b))) i
PartFits c d (Funcs a b) i = SamePart (item_side (leaf item (func (func_tree c a)))) (item_side (leaf item (func (func_tree d b)))) i
PartFits c d (Interfaces a b) i = IsServedAt (externs c (interface_key a)).exports (externs d (interface_key b)).exports i
PartFits c d (Worlds a b) i = (i < import_count c a → IsServedAt (externs d (world_key b)).imports (externs c (world_key a)).imports i) × (import_count c a ≤ i → IsServedAt (externs c (world_key a)).exports (externs d (world_key b)).exports (i - import_count c a))
PartFits c d (Modules a b) i = Unit {0}

-- the parts before a place fit
abbrev pub PartsFit : Collection → Collection → Entries → ℕ → Type 0
PartsFit c d e i = (j : ℕ) → j < i → PartFits c d e j

-- how many parts there are to compare
abbrev pub compared_count : Collection → Collection → Entries → ℕ
compared_count c d (DefinedTypes a b) = length (side_parts (value_side (value_tree c (Defined a))))
compared_count c d (Funcs a b) = length (side_parts (item_side (leaf item (func (func_tree c a)))))
compared_count c d (Interfaces a b) = length (listed (externs d (interface_key b)).exports)
compared_count c d (Worlds a b) = import_count c a + length (listed (externs d (world_key b)).exports)
compared_count c d (Modules a b) = 0

-- there is a part at the place, and after it room for one more
abbrev pub HasPart : Collection → Collection → Entries → ℕ → Type 0
HasPart c d e i = (i < compared_count c d e) × (i + 1 < 2 ^ 64)

-- the frame to the parts at a place
abbrev pub IsFrameOf : Collection → Collection → Entries → ℕ → Frame → Type 0
IsFrameOf c d (DefinedTypes a b) i f = IsFrameAt (value_side (value_tree c (Defined a))) i f
IsFrameOf c d (Funcs a b) i f = IsFrameAt (item_side (leaf item (func (func_tree c a)))) i f
IsFrameOf c d (Interfaces a b) i f = IsExportFrame (externs d (interface_key b)).exports i f
IsFrameOf c d (Worlds a b) i f = (i < import_count c a → IsImportFrame (externs c (world_key a)).imports i f) × (import_count c a ≤ i → IsExportFrame (externs d (world_key b)).exports (i - import_count c a) f)
IsFrameOf c d (Modules a b) i f = ⊥

-- the collection of the left entry, and that of the right one
abbrev pub left_of : Collection → Collection → Bool → Collection
left_of c d false = c
left_of c d true = d

abbrev pub right_of : Collection → Collection → Bool → Collection
right_of c d false = d
right_of c d true = c

-- the direction, which is turned where the two are swapped
abbrev pub check_of : SubtypeCheck → Bool → SubtypeCheck
check_of c false = c
check_of c true = turned c

-- whether a pair is swapped that is so below one that is so or isn't
abbrev pub flag_of : Bool → Bool → Bool
flag_of false t = t
flag_of true t = not t

-- ---- pairs

-- the id of an index
abbrev pub id_in : Collection → ℕ → Id
id_in c i = record { number = c.number; index = i }

-- the key of an entry of a sort
abbrev pub sorted_key : PairSort → Id → Key
sorted_key sort.Defined a = defined_key a
sorted_key sort.Func a = func_key a
sorted_key sort.Interface a = interface_key a
sorted_key sort.World a = world_key a
sorted_key sort.Module a = module_key a

abbrev pub entries_by : PairSort → Id → Id → Entries
entries_by sort.Defined a b = DefinedTypes a b
entries_by sort.Func a b = Funcs a b
entries_by sort.Interface a b = Interfaces a b
entries_by sort.World a b = Worlds a b
entries_by sort.Module a b = Modules a b

-- the entries of a pair, told from the collection of the left one and that of the right one
abbrev pub entries_of : Collection → Collection → EntryPair → Entries
entries_of c d p = entries_by p.sort (id_in c p.left) (id_in d p.right)

-- the two of a pair, told from the two collections
abbrev pub two_of : Collection → Collection → EntryPair → Two
two_of c d p = record { entries = entries_of (left_of c d p.swapped) (right_of c d p.swapped) p; swapped = p.swapped }

abbrev pub PairStands : Collection → Collection → Two → Type 0
PairStands c d p = EntriesStand (left_of c d p.swapped) (right_of c d p.swapped) p.entries

abbrev pub PairFits : Collection → Collection → Two → Type 0
PairFits c d p = EntriesFit (left_of c d p.swapped) (right_of c d p.swapped) p.entries

abbrev pub PairPartFits : Collection → Collection → Two → ℕ → Type 0
PairPartFits c d p i = PartFits (left_of c d p.swapped) (right_of c d p.swapped) p.entries i

abbrev pub pair_height : Collection → Collection → Two → ℕ
pair_height c d p = entries_height (left_of c d p.swapped) (right_of c d p.swapped) p.entries

abbrev pub PairHasPart : Collection → Collection → Two → ℕ → Type 0
PairHasPart c d p i = HasPart (left_of c d p.swapped) (right_of c d p.swapped) p.entries i

abbrev pub IsPairFrame : Collection → Collection → Two → ℕ → Frame → Type 0
IsPairFrame c d p i f = IsFrameOf (left_of c d p.swapped) (right_of c d p.swapped) p.entries i f

abbrev pub ExplainsPair : SubtypeCheck → Collection → Collection → Two → SubtypeError → Type 0
ExplainsPair check c d p r = ExplainsEntries (check_of check p.swapped) (left_of c d p.swapped) (right_of c d p.swapped) p.entries r

abbrev pub PairPath : SubtypeCheck → Collection → Collection → Two → List Frame → Fault → Type 0
PairPath check c d p frames f = EntriesPath (check_of check p.swapped) (left_of c d p.swapped) (right_of c d p.swapped) p.entries frames f

-- the pair stands at a place of these two entries: it is lower, the parts there fit where it does,
-- a frame leads to it, and the two entries fit only where it does
pub record IsBelow (c d : Collection) (e : Entries) (i : ℕ) (q : Two) : Type 0 where
  pub stand : PairStands c d q
  pub lower : pair_height c d q < entries_height c d e
  pub enough : PairFits c d q → PartFits c d e i
  pub leads : (check : SubtypeCheck) (f : Frame) → IsFrameOf c d e i f → (gs : List Frame) (g : Fault) → PairPath check c d q gs g → EntriesPath check c d e (f ∷ gs) g
  pub needed : EntriesFit c d e → PairFits c d q

-- the same of a pair
pub record IsBelowPair (c d : Collection) (p : Two) (i : ℕ) (q : Two) : Type 0 where
  pub stand : PairStands c d q
  pub lower : pair_height c d q < pair_height c d p
  pub enough : PairFits c d q → PairPartFits c d p i
  pub leads : (check : SubtypeCheck) (f : Frame) → IsPairFrame c d p i f → (gs : List Frame) (g : Fault) → PairPath check c d q gs g → PairPath check c d p (f ∷ gs) g
  pub needed : PairFits c d p → PairFits c d q

-- what a comparison of the parts at a place of two entries says
abbrev pub IsEntriesPart : Collection → Collection → Entries → ℕ → Finding → Type 0
IsEntriesPart c d e i End = PartsFit c d e i → EntriesFit c d e
IsEntriesPart c d e i Same = HasPart c d e i × PartFits c d e i
IsEntriesPart c d e i (Below q) = HasPart c d e i × IsBelow c d e i q

-- the pair that stands below one that is swapped or isn't, told from the two collections
abbrev pub placed_pair : Bool → Two → Two
placed_pair false q = q
placed_pair true q = record { entries = q.entries; swapped = not q.swapped }

-- ---- pairs by indices

abbrev pub IsStanding : Collection → Collection → EntryPair → Type 0
IsStanding c d p = PairStands c d (two_of c d p)

abbrev pub IsFitting : Collection → Collection → EntryPair → Type 0
IsFitting c d p = PairFits c d (two_of c d p)

-- no pair is twice in the list
abbrev pub ArePairsDistinct : List EntryPair → Type 0
ArePairsDistinct [] = Unit {0}
ArePairsDistinct (p ∷ ps) = (Contains ps p → ⊥) × ArePairsDistinct ps

-- the pairs stand, and none is there twice
abbrev pub ArePairsOf : Collection → Collection → List EntryPair → Type 0
ArePairsOf c d ps = ArePairsDistinct ps × ((p : EntryPair) → Contains ps p → IsStanding c d p)
