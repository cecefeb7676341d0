-- What is listed of two entries: the parts that they stand on, and what they differ in.
use Rattle.std.specs.Prelude.{◌≡◌, ◌≢◌, ◌<◌, ◌++◌, ◌⊎◌, ◌+◌, ℕ, List, [], ◌∷◌, length, Bool, true, false, not, Option, Some, None, is_some, Contains, Result, Ok, Err, string_bytes}
use Rattle.std.specs.Option.{option_to_list}
use Rattle.std.specs.List.{flat_map}
use Rattle.std.specs.declared.string.String.{String}
use Rattle.std.specs.declared.alloc.AllocError.{AllocError}
use Rattle.std.specs.declared.alloc.Global.{Global}
use Rattle.wac_model.specs.Order.{Fits}
use Rattle.wac_model.specs.ValueTree.{ValueLabel, ValueTree, node, primitive, borrow, own, record_of}
use Rattle.wac_model.specs.ItemTree.{ItemTree, Items, Kind, Shape, item, type_item, leaf, composite, func, resource, value, world}
use Rattle.wac_model.specs.Desc.{item_desc}
use Rattle.wac_component.specs.Collection.{Collection}
use Rattle.wac_component.specs.Collection.{FuncContent}
use Rattle.wac_component.specs.Height.{keys_height}
use Rattle.wac_component.specs.Key.{func_keys, value_keys}
use Rattle.wac_component.specs.Tree.{value_tree, item_tree, items_of, func_content_tree}
use Rattle.wac_component.specs.Content.{names, types_of, case_types}
use Rattle.wac_component.specs.declared.items.ItemKind.{ItemKind}
use Rattle.wac_component.specs.declared.items.ValueType.{ValueType}
use Rattle.wac_mismatch.specs.Place.{Side, value_side, item_side, place, by_check}
use Rattle.wac_mismatch.specs.Path.{Path}
use Rattle.wac_mismatch.specs.Difference.{IsFaultOf, DifferIn}
use Rattle.wac_mismatch.specs.declared.difference.Difference.{Difference}
use Rattle.wac_mismatch.specs.declared.difference.Difference.TheVariants as difference
use Rattle.wac_mismatch.specs.Holds.{IsOfNames}
use Rattle.wac_mismatch.specs.declared.fault.CountOf.{CountOf}
use Rattle.wac_mismatch.specs.declared.fault.NameOf.{NameOf}
use Rattle.wac_mismatch.specs.declared.check.SubtypeCheck.{SubtypeCheck}
use Rattle.wac_mismatch.specs.declared.fault.Fault.{Fault}
use Rattle.wac_mismatch.specs.declared.frame.Frame.{Frame}
use Rattle.wac_model.specs.Text.{Text}
use Rattle.wac_checker_parts.specs.Items.{AreOtherItems, AreOtherKinds}
use Rattle.wac_checker_parts.specs.Content.{composed_side, variant_side}
use Rattle.wac_checker_parts.specs.Parts.{IsFrameAt, IsIndex, SameBefore}
use Rattle.wac_checker_parts.specs.Pairs.{Entries, Modules, EntriesFit, EntriesPath, HasPart, HaveAt, IsBelow, IsExternPart, IsFitting, IsFrameOf, IsPlace, AreNamed, AreOf, AreOfItems, Below, Same, check_of, entries_of, flag_of, left_of, right_of}
use Rattle.wac_checker_parts.specs.declared.parts.EntryPair.{EntryPair}
use Rattle.wac_checker_parts.specs.declared.parts.PairPart.{PairPart}
use Rattle.wac_checker_parts.specs.declared.parts.PairSort.{PairSort}
use Rattle.wac_checker_parts.specs.declared.sides.Sides.{Sides}
use Rattle.wac_checker_parts.specs.declared.parts.Halt.{Halt}
use Rattle.wac_checker_parts.specs.declared.parts.Halt.TheVariants as halt

-- whether two are one, or memory was wanting
abbrev pub Named : Type 0
Named = Result Bool AllocError

-- what is found of two whose parts are listed: where the list ends, if it isn't at the end
abbrev pub Turn : Type 0
Turn = Result (Unit {0}) Halt

-- a function, as an item or as a type
abbrev pub func_side : Kind → Collection → FuncContent → Side
func_side k c f = item_side (leaf k (func (func_content_tree c f)))

-- ---- parts

-- the pairs of these parts fit
abbrev pub AllFit : Collection → Collection → List PairPart → Type 0
AllFit c d ms = (q : PairPart) → Contains ms q → IsFitting c d q.pair

-- the same, told from two sides, which are those of the comparison or, swapped, the other way round
abbrev pub AllFitBy : Collection → Collection → Bool → List PairPart → Type 0
AllFitBy l r s ms = AllFit (left_of l r s) (right_of l r s) ms

-- the pair is named
abbrev pub IsNamed : List PairPart → EntryPair → Type 0
IsNamed ms p = (q : PairPart) × Contains ms q × (q.pair ≡ p)

-- a pair is named as the part of an index, unless it was before
abbrev pub IsPut : ℕ → EntryPair → List PairPart → List PairPart → Type 0
IsPut i p ms ns = ((ns ≡ ms) × IsNamed ms p) ⊎ (ns ≡ ms ++ (record { pair = p; index = i }) ∷ [])

-- two entries are one, or they are named
abbrev pub AreNamedUnless : Bool → ℕ → EntryPair → List PairPart → List PairPart → Named → Type 0
AreNamedUnless same i p ms ns (Ok true) = ((same ≡ true) × (ns ≡ ms)) ⊎ IsPut i p ms ns
AreNamedUnless same i p ms ns (Ok false) = ⊥
AreNamedUnless same i p ms ns (Err e) = Unit {0}

-- the same of two entries of two collections
abbrev pub AreEntriesNamed : Collection → Collection → ℕ → EntryPair → List PairPart → List PairPart → Named → Type 0
AreEntriesNamed l r i p ms ns (Ok true) = ((l ≡ r) × (p.left ≡ p.right) × (ns ≡ ms)) ⊎ IsPut i p ms ns
AreEntriesNamed l r i p ms ns (Ok false) = ⊥
AreEntriesNamed l r i p ms ns (Err e) = Unit {0}

-- the same of two of a sort, told from the two collections of a comparison
abbrev pub AreEntriesAt : Sides → ℕ → PairSort → ℕ → ℕ → List PairPart → List PairPart → Named → Type 0
AreEntriesAt s i k a b ms ns t = AreEntriesNamed s.left.now s.right.now i (record { left = a; right = b; sort = k; swapped = s.swapped }) ms ns t

-- leaves of one case that differ
abbrev pub AreOtherLeaves : ValueTree → ValueTree → Type 0
AreOtherLeaves (node (primitive p) ts) (node (primitive q) us) = p ≢ q
AreOtherLeaves (node (borrow r) ts) (node (borrow s) us) = r ≢ s
AreOtherLeaves (node (own r) ts) (node (own s) us) = r ≢ s
AreOtherLeaves s t = ⊥

-- value types that differ themselves: they are of different cases, or leaves
abbrev pub AreLeavesApart : ValueTree → ValueTree → Type 0
AreLeavesApart s t = AreOtherKinds s t ⊎ AreOtherLeaves s t

-- two value types are one, or so far as two entries are that are named, or they differ
abbrev pub AreValuesNamed : Collection → Collection → Bool → ℕ → ValueType → ValueType → List PairPart → List PairPart → Named → Type 0
AreValuesNamed l r s i v w ms ns (Ok true) = ((ns ≡ ms) × (value_tree l v ≡ value_tree r w)) ⊎ ((p : EntryPair) × (p.swapped ≡ s) × AreOf l r v w (entries_of l r p) × IsPut i p ms ns)
AreValuesNamed l r s i v w ms ns (Ok false) = (ns ≡ ms) × AreLeavesApart (value_tree l v) (value_tree r w)
AreValuesNamed l r s i v w ms ns (Err e) = Unit {0}

-- a part of two sides, which is lower than these heights
abbrev pub IsMemberOf : Collection → Collection → Bool → Side → Side → ℕ → ℕ → PairPart → Type 0
IsMemberOf l r w s t m n q = IsIndex s q.index × (q.pair.swapped ≡ w) × HaveAt l r s t m n q.index (entries_of l r q.pair)

abbrev pub AreMembersOf : Collection → Collection → Bool → Side → Side → ℕ → ℕ → List PairPart → Type 0
AreMembersOf l r w s t m n ms = (q : PairPart) → Contains ms q → IsMemberOf l r w s t m n q

-- the frame to a part leads from two sides to the fault
abbrev pub DifferAtIn : ℕ → Difference → Side → Side → Type 0
DifferAtIn i x s t = (c : SubtypeCheck) (f : Frame) (g : Fault) → IsFrameAt s i f → IsFaultOf c x g → Path (f ∷ []) g (place c s t)

-- what is found of two sides whose parts are listed
abbrev pub IsSideTurn : Collection → Collection → Bool → Side → Side → ℕ → ℕ → List PairPart → Turn → Type 0
IsSideTurn l r w s t m n ms (Ok u) = AreMembersOf l r w s t m n ms × (AllFitBy l r w ms → s ≡ t)
IsSideTurn l r w s t m n ms (Err (halt.Apart x)) = AreMembersOf l r w s t m n ms × DifferIn x s t
IsSideTurn l r w s t m n ms (Err (halt.PartApart i b x)) = AreMembersOf l r w s t m n ms × (b ≡ false) × IsIndex s i × DifferAtIn i x s t × (s ≢ t)
IsSideTurn l r w s t m n ms (Err halt.Modules) = ⊥
IsSideTurn l r w s t m n ms (Err halt.Memory) = Unit {0}

-- how high value types of these members are
abbrev pub members_height : Collection → List ValueType → ℕ
members_height c vs = keys_height c (flat_map value_keys vs) + 1

-- what is found of two value types of these labels and members
abbrev pub AreComposed : Collection → Collection → Bool → ValueLabel → List ValueType → ValueLabel → List ValueType → List PairPart → Turn → Type 0
AreComposed l r w a vs b ws ms t = IsSideTurn l r w (composed_side l a vs) (composed_side r b ws) (members_height l vs) (members_height r ws) ms t

-- the same of two records, by the entries of their fields, and of two variants, by those of their cases
abbrev pub AreRecords : Collection → Collection → Bool → List (String Global × ValueType) → List (String Global × ValueType) → List PairPart → Turn → Type 0
AreRecords l r w es fs ms t = AreComposed l r w (record_of (names es)) (types_of es) (record_of (names fs)) (types_of fs) ms t

abbrev pub AreVariants : Collection → Collection → Bool → List (String Global × Option ValueType) → List (String Global × Option ValueType) → List PairPart → Turn → Type 0
AreVariants l r w es fs ms t = IsSideTurn l r w (variant_side l es) (variant_side r fs) (members_height l (case_types es)) (members_height r (case_types fs)) ms t

-- what is found of two sides whose parts are listed up to a place
abbrev pub IsTurnTo : Collection → Collection → Bool → Side → Side → ℕ → ℕ → ℕ → List PairPart → Turn → Type 0
IsTurnTo l r w s t m n i ms (Ok u) = AreMembersOf l r w s t m n ms × (AllFitBy l r w ms → SameBefore s t i)
IsTurnTo l r w s t m n i ms x = IsSideTurn l r w s t m n ms x

-- what is found of two functions, as items and as types: of their parameters, or of all
abbrev pub IsFuncTurn : Collection → Collection → Bool → FuncContent → FuncContent → List PairPart → Turn → Type 0
IsFuncTurn l r w f g ms t = (k : Kind) → IsSideTurn l r w (func_side k l f) (func_side k r g) (keys_height l (func_keys f) + 1) (keys_height r (func_keys g) + 1) ms t

abbrev pub IsParamsTurn : Collection → Collection → Bool → FuncContent → FuncContent → List PairPart → Turn → Type 0
IsParamsTurn l r w f g ms t = (k : Kind) → IsTurnTo l r w (func_side k l f) (func_side k r g) (keys_height l (func_keys f) + 1) (keys_height r (func_keys g) + 1) (length f.params) ms t

-- what is found of the last parts
abbrev pub IsLastTurn : Collection → Collection → Bool → ℕ → ValueType → ValueType → List PairPart → List PairPart → Turn → Type 0
IsLastTurn l r w i v x ms ns (Ok u) = AreValuesNamed l r w i v x ms ns (Ok true)
IsLastTurn l r w i v x ms ns (Err (halt.Apart d)) = ⊥
IsLastTurn l r w i v x ms ns (Err (halt.PartApart j b d)) = (j ≡ i) × (b ≡ false) × (ns ≡ ms) × DifferIn d (value_side (value_tree l v)) (value_side (value_tree r x)) × (value_tree l v ≢ value_tree r x)
IsLastTurn l r w i v x ms ns (Err halt.Modules) = ⊥
IsLastTurn l r w i v x ms ns (Err halt.Memory) = Unit {0}

-- the same of what may be there: where only one is, that is what they differ in
abbrev pub IsOptionalTurn : Collection → Collection → Bool → ℕ → Difference → Option ValueType → Option ValueType → List PairPart → List PairPart → Turn → Type 0
IsOptionalTurn l r w i d (Some v) (Some x) ms ns t = IsLastTurn l r w i v x ms ns t
IsOptionalTurn l r w i d None None ms ns t = (ns ≡ ms) × (t ≡ Ok tt)
IsOptionalTurn l r w i d o p ms ns t = (ns ≡ ms) × (t ≡ Err (halt.Apart d))

-- two resources differ in these names
abbrev pub AreRoots : Difference → Text → Text → Type 0
AreRoots (difference.Resources a b) x y = (string_bytes a.now ≡ x) × (string_bytes b.now ≡ y)
AreRoots _ x y = ⊥

-- what is found of two lists of names
abbrev pub IsNamesTurn : CountOf → NameOf → List Text → List Text → Turn → Type 0
IsNamesTurn o n xs ys (Ok u) = xs ≡ ys
IsNamesTurn o n xs ys (Err (halt.Apart x)) = (c : SubtypeCheck) (f : Fault) → IsFaultOf c x f → by_check c (IsOfNames o n f) xs ys
IsNamesTurn o n xs ys t = ⊥

-- ---- of items

-- items that differ themselves: they are of different cases, or leaves
abbrev pub AreTreesApart : ItemTree → ItemTree → Type 0
AreTreesApart (leaf item (value s)) (leaf item (value t)) = AreLeavesApart s t
AreTreesApart (leaf type_item (value s)) (leaf type_item (value t)) = AreLeavesApart s t
AreTreesApart (leaf item (resource x)) (leaf item (resource y)) = x ≢ y
AreTreesApart (leaf type_item (resource x)) (leaf type_item (resource y)) = x ≢ y
AreTreesApart s t = AreOtherItems s t

-- two items fit, or so far as two entries do that are named, or they differ
abbrev pub AreItemsNamed : Collection → Collection → Bool → ℕ → ItemKind → ItemKind → List PairPart → List PairPart → Named → Type 0
AreItemsNamed l r w i x y ms ns (Ok true) = ((ns ≡ ms) × Fits (item_tree l x) (item_tree r y)) ⊎ ((p : EntryPair) × (p.swapped ≡ w) × AreOfItems l r x y (entries_of l r p) × IsPut i p ms ns)
AreItemsNamed l r w i x y ms ns (Ok false) = (ns ≡ ms) × AreTreesApart (item_tree l x) (item_tree r y) × (¬ (Fits (item_tree l x) (item_tree r y)))
AreItemsNamed l r w i x y ms ns (Err e) = Unit {0}

abbrev pub KindsByName : Type 0
KindsByName = List (Text × ItemKind)

-- a part is what is asked for at a place, which is told from a first one, and what is there of its name
abbrev pub IsExternOf : Collection → Collection → Bool → ℕ → KindsByName → KindsByName → PairPart → Type 0
IsExternOf l r w first es ts q = (j : ℕ) × (q.index ≡ first + j) × (q.pair.swapped ≡ w) × IsExternPart l r es ts j (Below (record { entries = entries_of l r q.pair; swapped = false }))

-- more parts are such
abbrev pub AreExternsOf : Collection → Collection → Bool → ℕ → KindsByName → KindsByName → List PairPart → List PairPart → Type 0
AreExternsOf l r w first es ts ms ns = ((q : PairPart) → Contains ms q → Contains ns q) × ((q : PairPart) → Contains ns q → Contains ms q ⊎ IsExternOf l r w first es ts q)

-- what is asked for before a place is there, and fits, where the pairs do
abbrev pub AreServedTo : Collection → Collection → Bool → KindsByName → KindsByName → ℕ → List PairPart → Type 0
AreServedTo l r w es ts i ns = AllFitBy l r w ns → (j : ℕ) → j < i → IsExternPart l r es ts j Same

-- these items have the name of what is asked for at a place, and differ themselves
abbrev pub DifferThere : Collection → Collection → KindsByName → KindsByName → ℕ → Difference → Type 0
DifferThere l r es ts j x = IsPlace ts j × ((n : Text) × (a : ItemKind) × (b : ItemKind) × AreNamed es ts j n a b × DifferIn x (item_side (item_tree l a)) (item_side (item_tree r b)) × (¬ (Fits (item_tree l a) (item_tree r b))))

-- the fault of a difference holds of what exports these, be it an interface or a world
abbrev pub DifferInExports : Difference → Text → Items → Items → Type 0
DifferInExports x h es es' = (k : Kind) (s : Shape) (is is' : Items) → h ≡ item_desc (composite item s is es) → DifferIn x (item_side (composite k s is es)) (item_side (composite k s is' es'))

-- and of worlds that import these
abbrev pub DifferInImports : Difference → Items → Items → Type 0
DifferInImports x is is' = (k : Kind) (es es' : Items) → DifferIn x (item_side (composite k world is es)) (item_side (composite k world is' es'))

-- what is found of the exports of two interfaces or worlds
abbrev pub IsExportsTurn : Collection → Collection → Bool → Text → ℕ → KindsByName → KindsByName → List PairPart → List PairPart → Turn → Type 0
IsExportsTurn l r w h first es ts ms ns (Ok u) = AreExternsOf l r w first es ts ms ns × AreServedTo l r w es ts (length ts) ns
IsExportsTurn l r w h first es ts ms ns (Err (halt.Apart x)) = AreExternsOf l r w first es ts ms ns × DifferInExports x h (items_of (item_tree l) es) (items_of (item_tree r) ts)
IsExportsTurn l r w h first es ts ms ns (Err (halt.PartApart i b x)) = AreExternsOf l r w first es ts ms ns × (b ≡ false) × ((j : ℕ) × (i ≡ first + j) × DifferThere l r es ts j x)
IsExportsTurn l r w h first es ts ms ns (Err halt.Modules) = ⊥
IsExportsTurn l r w h first es ts ms ns (Err halt.Memory) = Unit {0}

-- and of the imports of two worlds: the sides change places
abbrev pub IsImportsTurn : Collection → Collection → Bool → KindsByName → KindsByName → List PairPart → Turn → Type 0
IsImportsTurn l r w is js ns (Ok u) = AreExternsOf r l (not w) 0 js is [] ns × AreServedTo r l (not w) js is (length is) ns
IsImportsTurn l r w is js ns (Err (halt.Apart x)) = AreExternsOf r l (not w) 0 js is [] ns × DifferInImports x (items_of (item_tree l) is) (items_of (item_tree r) js)
IsImportsTurn l r w is js ns (Err (halt.PartApart i b x)) = AreExternsOf r l (not w) 0 js is [] ns × (b ≡ true) × DifferThere r l js is i x
IsImportsTurn l r w is js ns (Err halt.Modules) = ⊥
IsImportsTurn l r w is js ns (Err halt.Memory) = Unit {0}

-- the same words, told from the two collections of a comparison
abbrev pub IsExportsListed : Sides → Text → ℕ → KindsByName → KindsByName → List PairPart → List PairPart → Turn → Type 0
IsExportsListed s h first es ts ms ns t = IsExportsTurn s.left.now s.right.now s.swapped h first es ts ms ns t

abbrev pub IsOptionalListed : Sides → ℕ → Difference → Option ValueType → Option ValueType → List PairPart → List PairPart → Turn → Type 0
IsOptionalListed s i d o p ms ns t = IsOptionalTurn s.left.now s.right.now s.swapped i d o p ms ns t

-- what is found of the payloads of two streams, or of two futures
abbrev pub ArePayloads : Sides → (Bool → ValueLabel) → Option ValueType → Option ValueType → List PairPart → Turn → Type 0
ArePayloads s label o p ms t = AreComposed s.left.now s.right.now s.swapped (label (is_some o)) (option_to_list o) (label (is_some p)) (option_to_list p) ms t

-- ---- of two entries

-- a part of two entries
abbrev pub IsPartOf : Collection → Collection → Bool → Entries → PairPart → Type 0
IsPartOf l r w e q = (b : Bool) × (q.pair.swapped ≡ flag_of w b) × HasPart l r e q.index × IsBelow l r e q.index (record { entries = entries_of (left_of l r b) (right_of l r b) q.pair; swapped = b })

abbrev pub ArePartsOf : Collection → Collection → Bool → Entries → List PairPart → Type 0
ArePartsOf l r w e ms = (q : PairPart) → Contains ms q → IsPartOf l r w e q

-- the two are core modules
abbrev pub AreModules : Entries → Type 0
AreModules (Modules a b) = Unit {0}
AreModules e = ⊥

-- what is found of two entries whose parts are listed
abbrev pub IsTurn : Collection → Collection → Bool → Entries → List PairPart → Turn → Type 0
IsTurn l r w e ms (Ok u) = ArePartsOf l r w e ms × (AllFitBy l r w ms → EntriesFit l r e)
IsTurn l r w e ms (Err (halt.Apart x)) = ArePartsOf l r w e ms × ((c : SubtypeCheck) (f : Fault) → IsFaultOf c x f → EntriesPath c l r e [] f) × (¬ (EntriesFit l r e))
IsTurn l r w e ms (Err (halt.PartApart i b x)) = ArePartsOf l r w e ms × HasPart l r e i × ((c : SubtypeCheck) (f : Frame) (g : Fault) → IsFrameOf l r e i f → IsFaultOf (check_of c b) x g → EntriesPath c l r e (f ∷ []) g) × (¬ (EntriesFit l r e))
IsTurn l r w e ms (Err halt.Modules) = ArePartsOf l r w e ms × (¬ (EntriesFit l r e)) × AreModules e
IsTurn l r w e ms (Err halt.Memory) = Unit {0}

-- the same of a pair
abbrev pub IsPairTurn : Collection → Collection → EntryPair → List PairPart → Turn → Type 0
IsPairTurn c d p ms t = let l = left_of c d p.swapped in let r = right_of c d p.swapped in IsTurn l r p.swapped (entries_of l r p) ms t
