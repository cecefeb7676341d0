-- What each fault says of the side that is expected and the one that is found.
use Rattle.std.specs.Prelude.{◌≡◌, ◌≢◌, ℕ, List, Bool, true, false, Some, None, string_bytes, slice_get, length, map, is_some, ◌⊎◌}
use Rattle.std.specs.Str.{bytes_eq}
use Rattle.wac_model.specs.Text.{Text, ImportName, import_name_eq, lookup}
use Rattle.wac_model.specs.Desc.{value_desc, item_desc}
use Rattle.wac_model.specs.ValueTree.{ValueTree, FuncTree, node, part_count, primitive, borrow, own, tuple, list, fixed_size_list, map_of, option, result_of, variant, record_of, flags, enum, stream, future}
use Rattle.wac_model.specs.CoreTree.{CoreTree, RefTree, CoreTypeTree, LimitsFit, plain, limited, func as core_func, tag, global, table, memory}
use Rattle.wac_model.specs.ItemTree.{ItemTree, Kind, Leaf, leaf, core_module, composite, item, type_item, resource, func, value, interface, world, item_at}
use Rattle.wac_core.specs.Content.{ref_tree, core_type_tree, core_func_content}
use Rattle.wac_core.specs.Texts.{core_extern_text}
use Rattle.wac_mismatch.specs.Place.{Side, item_side, core_side, value_side, absent, Place, by_check}
use Rattle.wac_mismatch.specs.declared.fault.CountOf.{CountOf}
use Rattle.wac_mismatch.specs.declared.fault.CountOf.TheVariants as count_of
use Rattle.wac_mismatch.specs.declared.fault.NameOf.{NameOf}
use Rattle.wac_mismatch.specs.declared.fault.NameOf.TheVariants as name_of
use Rattle.wac_mismatch.specs.declared.fault.ResultPart.TheVariants as result_part
use Rattle.wac_mismatch.specs.declared.fault.CoreField.{CoreField}
use Rattle.wac_mismatch.specs.declared.fault.CoreField.TheVariants as core_field
use Rattle.wac_mismatch.specs.declared.fault.Fault.{Fault}
use Rattle.wac_mismatch.specs.declared.fault.Fault.TheVariants as fault

-- different kinds, with these descriptions
abbrev pub IsKindFault : Fault → Text → Text → Type 0
IsKindFault (fault.Kind e f) x y = (e.now ≡ x) × (f.now ≡ y)
IsKindFault _ x y = ⊥

-- resources of different names
abbrev pub IsResource : Fault → Text → Text → Type 0
IsResource (fault.Resource e f) x y = (x ≢ y) × (string_bytes e ≡ x) × (string_bytes f ≡ y)
IsResource _ x y = ⊥

-- different numbers of parts
abbrev pub IsCount : CountOf → Fault → ℕ → ℕ → Type 0
IsCount of (fault.Count o e f) x y = (o ≡ of) × (x ≢ y) × (e ≡ x) × (f ≡ y)
IsCount of _ x y = ⊥

-- different sizes
abbrev pub IsFixedSize : Fault → ℕ → ℕ → Type 0
IsFixedSize fault.FixedSize x y = x ≢ y
IsFixedSize _ x y = ⊥

-- a payload on one side, which is the expected one or isn't
abbrev pub IsPayload : Fault → Bool → Type 0
IsPayload (fault.Payload e) x = e ≡ x
IsPayload _ x = ⊥

-- at the index the two lists have these texts, which differ
abbrev pub DifferAt : ℕ → Text → Text → List Text → List Text → Type 0
DifferAt i x y xs ys = (x ≢ y) × (slice_get xs i ≡ Some x) × (slice_get ys i ≡ Some y)

-- different numbers of names, or different names at an index
abbrev pub IsOfNames : CountOf → NameOf → Fault → List Text → List Text → Type 0
IsOfNames c n (fault.Count o e f) xs ys = (o ≡ c) × (length xs ≢ length ys) × (e ≡ length xs) × (f ≡ length ys)
IsOfNames c n (fault.Name o i e f) xs ys = (o ≡ n) × DifferAt i (string_bytes e) (string_bytes f) xs ys
IsOfNames c n _ xs ys = ⊥

-- a type for `ok` or for `err` on one side, the first of each pair being for `ok`
abbrev pub IsOfResult : Fault → Bool → Bool → Bool → Bool → Type 0
IsOfResult (fault.ResultPart result_part.Ok e) o r o' r' = (o ≢ o') × (e ≡ o)
IsOfResult (fault.ResultPart result_part.Err e) o r o' r' = (r ≢ r') × (e ≡ r)
IsOfResult _ o r o' r' = ⊥

-- a case with a type on one side, or names that differ
abbrev pub IsOfVariant : Fault → List (Text × Bool) → List (Text × Bool) → Type 0
IsOfVariant (fault.CaseType n e) xs ys = (i : ℕ) × (x : Bool) × (y : Bool) × (x ≢ y) × (e ≡ x) × (slice_get xs i ≡ Some (string_bytes n, x)) × (slice_get ys i ≡ Some (string_bytes n, y))
IsOfVariant f xs ys = IsOfNames count_of.Variant name_of.Variant f (map (λ p. p.0) xs) (map (λ p. p.0) ys)

-- a fault of two value types
abbrev pub HoldsOfValues : Fault → ValueTree → ValueTree → Type 0
HoldsOfValues f (node (primitive p) ts) (node (primitive q) us) = (p ≢ q) × IsKindFault f (value_desc (node (primitive p) ts)) (value_desc (node (primitive q) us))
HoldsOfValues f (node (borrow r) ts) (node (borrow s) us) = IsResource f r s
HoldsOfValues f (node (own r) ts) (node (own s) us) = IsResource f r s
HoldsOfValues f (node tuple ts) (node tuple us) = IsCount count_of.Tuple f (part_count ts) (part_count us)
HoldsOfValues f (node list ts) (node list us) = ⊥
HoldsOfValues f (node (fixed_size_list m) ts) (node (fixed_size_list n) us) = IsFixedSize f m n
HoldsOfValues f (node map_of ts) (node map_of us) = ⊥
HoldsOfValues f (node option ts) (node option us) = ⊥
HoldsOfValues f (node (result_of o r) ts) (node (result_of o' r') us) = IsOfResult f o r o' r'
HoldsOfValues f (node (variant xs) ts) (node (variant ys) us) = IsOfVariant f xs ys
HoldsOfValues f (node (record_of xs) ts) (node (record_of ys) us) = IsOfNames count_of.Record name_of.Record f xs ys
HoldsOfValues f (node (flags xs) ts) (node (flags ys) us) = IsOfNames count_of.Flags name_of.Flags f xs ys
HoldsOfValues f (node (enum xs) ts) (node (enum ys) us) = IsOfNames count_of.Enum name_of.Enum f xs ys
HoldsOfValues f (node (stream p) ts) (node (stream q) us) = ⊥
HoldsOfValues f (node (future p) ts) (node (future q) us) = ⊥
HoldsOfValues f x y = IsKindFault f (value_desc x) (value_desc y)

-- a fault of two functions
abbrev pub IsOfFunc : Fault → FuncTree → FuncTree → Type 0
IsOfFunc (fault.Async e) x y = (x.is_async ≢ y.is_async) × (e ≡ x.is_async)
IsOfFunc (fault.ParamCount e f) x y = (length x.params ≢ length y.params) × (e ≡ length x.params) × (f ≡ length y.params)
IsOfFunc (fault.ParamName i e f) x y = DifferAt i (string_bytes e) (string_bytes f) (map (λ p. p.0) x.params) (map (λ p. p.0) y.params)
IsOfFunc (fault.FuncResult e) x y = (is_some x.«result» ≢ is_some y.«result») × (e ≡ is_some x.«result»)
IsOfFunc _ x y = ⊥

-- a fault of two items of a kind that have no items below them
abbrev pub HoldsOfLeaves : Fault → Kind → Leaf → Leaf → Type 0
HoldsOfLeaves f k (resource r) (resource s) = IsResource f r s
HoldsOfLeaves f k (func x) (func y) = IsOfFunc f x y
HoldsOfLeaves f k (value x) (value y) = HoldsOfValues f x y
HoldsOfLeaves f k x y = IsKindFault f (item_desc (leaf k x)) (item_desc (leaf k y))

-- a fault of two items; what two interfaces, two worlds or two core modules lack is told below
abbrev pub HoldsOfItems : Fault → ItemTree → ItemTree → Type 0
HoldsOfItems f (leaf item x) (leaf item y) = HoldsOfLeaves f item x y
HoldsOfItems f (leaf type_item x) (leaf type_item y) = HoldsOfLeaves f type_item x y
HoldsOfItems f (core_module item m) (core_module item n) = ⊥
HoldsOfItems f (core_module type_item m) (core_module type_item n) = ⊥
HoldsOfItems f (composite item interface is es) (composite item interface is' es') = ⊥
HoldsOfItems f (composite item world is es) (composite item world is' es') = ⊥
HoldsOfItems f (composite type_item interface is es) (composite type_item interface is' es') = ⊥
HoldsOfItems f (composite type_item world is es) (composite type_item world is' es') = ⊥
HoldsOfItems f x y = IsKindFault f (item_desc x) (item_desc y)

-- two core functions or tags of different types
abbrev pub IsCoreFunc : Fault → List CoreTypeTree × List CoreTypeTree → List CoreTypeTree × List CoreTypeTree → Type 0
IsCoreFunc (fault.CoreFunc e f) x y = (x ≢ y) × (core_func_content e ≡ x) × (core_func_content f ≡ y)
IsCoreFunc _ x y = ⊥

-- tables with elements of different types
abbrev pub IsTableElement : Fault → RefTree → RefTree → Type 0
IsTableElement (fault.TableElement e f) x y = (x ≢ y) × (ref_tree e ≡ x) × (ref_tree f ≡ y)
IsTableElement _ x y = ⊥

-- globals with values of different types
abbrev pub IsGlobalType : Fault → CoreTypeTree → CoreTypeTree → Type 0
IsGlobalType (fault.GlobalType e f) x y = (x ≢ y) × (core_type_tree e ≡ x) × (core_type_tree f ≡ y)
IsGlobalType _ x y = ⊥

-- a fault of two core externs
abbrev pub HoldsOfCore : Fault → CoreTree → CoreTree → Type 0
HoldsOfCore f (plain (core_func ps rs)) (plain (core_func ps' rs')) = IsCoreFunc f (ps, rs) (ps', rs')
HoldsOfCore f (plain (tag ps rs)) (plain (tag ps' rs')) = IsCoreFunc f (ps, rs) (ps', rs')
HoldsOfCore f (plain (global v m s)) (plain (global v' m' s')) = IsGlobalType f v v'
HoldsOfCore f (limited (table e t s) l) (limited (table e' t' s') l') = IsTableElement f e e'
HoldsOfCore f (limited (memory m s p) l) (limited (memory m' s' p') l') = ⊥
HoldsOfCore f x y = IsKindFault f (core_extern_text x) (core_extern_text y)

-- a fault of an expected side and a found one
abbrev pub HoldsOfSides : Fault → Side → Side → Type 0
HoldsOfSides f (item_side x) (item_side y) = HoldsOfItems f x y
HoldsOfSides f (core_side x) (core_side y) = HoldsOfCore f x y
HoldsOfSides f (value_side x) (value_side y) = HoldsOfValues f x y
HoldsOfSides f (value_side x) absent = IsPayload f true
HoldsOfSides f absent (value_side y) = IsPayload f false
HoldsOfSides f x y = ⊥

-- what the right side exports under the name, with its description, and the left side,
-- which is such a holder, doesn't
abbrev pub LacksExport : Text → Text → Text → Side → Side → Type 0
LacksExport h k n (item_side (composite i s is es)) (item_side (composite i' s' is' es')) = (i ≡ i') × (s ≡ s') × (h ≡ item_desc (composite item s is es)) × (item_at es n ≡ None) × ((t : ItemTree) × (item_at es' n ≡ Some t) × (k ≡ item_desc t))
LacksExport h k n (item_side (core_module i m)) (item_side (core_module i' m')) = (i ≡ i') × (h ≡ item_desc (core_module item m)) × (lookup bytes_eq m.content.exports n ≡ None) × ((t : CoreTree) × (lookup bytes_eq m'.content.exports n ≡ Some t) × (k ≡ core_extern_text t))
LacksExport h k n a b = ⊥

-- what the left world imports under the name, with its description, and the right one doesn't
abbrev pub LacksImport : Text → Text → Side → Side → Type 0
LacksImport k n (item_side (composite i world is es)) (item_side (composite i' world is' es')) = (i ≡ i') × (item_at is' n ≡ None) × ((t : ItemTree) × (item_at is n ≡ Some t) × (k ≡ item_desc t))
LacksImport k n a b = ⊥

-- what the left core module imports under the name, of this sort, and the right one doesn't
abbrev pub LacksCoreImport : Text → ImportName → Side → Side → Type 0
LacksCoreImport k n (item_side (core_module i m)) (item_side (core_module i' m')) = (i ≡ i') × (lookup import_name_eq m'.content.imports n ≡ None) × ((t : CoreTree) × (lookup import_name_eq m.content.imports n ≡ Some t) × (k ≡ core_extern_text t))
LacksCoreImport k n a b = ⊥

-- two core externs of one sort that differ in this, or whose limits don't fit
abbrev pub DifferInField : CoreField → Side → Side → Type 0
DifferInField core_field.TableLimits (core_side (limited (table e t s) l)) (core_side (limited (table e' t' s') l')) = ¬ (LimitsFit l l')
DifferInField core_field.Table64 (core_side (limited (table e t s) l)) (core_side (limited (table e' t' s') l')) = t ≢ t'
DifferInField core_field.TableShared (core_side (limited (table e t s) l)) (core_side (limited (table e' t' s') l')) = s ≢ s'
DifferInField core_field.MemoryShared (core_side (limited (memory m s p) l)) (core_side (limited (memory m' s' p') l')) = s ≢ s'
DifferInField core_field.Memory64 (core_side (limited (memory m s p) l)) (core_side (limited (memory m' s' p') l')) = m ≢ m'
DifferInField core_field.MemoryLimits (core_side (limited (memory m s p) l)) (core_side (limited (memory m' s' p') l')) = ¬ (LimitsFit l l')
DifferInField core_field.PageSizeLog2 (core_side (limited (memory m s p) l)) (core_side (limited (memory m' s' p') l')) = p ≢ p'
DifferInField core_field.GlobalMutable (core_side (plain (global v m s))) (core_side (plain (global v' m' s'))) = m ≢ m'
DifferInField core_field.GlobalShared (core_side (plain (global v m s))) (core_side (plain (global v' m' s'))) = s ≢ s'
DifferInField field a b = ⊥

-- a fault that speaks of the left side and the right one
abbrev pub HoldsOfPlace : Fault → Place → Type 0
HoldsOfPlace (fault.MissingExport h k n c) p = (c ≡ p.check) × LacksExport h.now k.now (string_bytes n) p.left p.right
HoldsOfPlace (fault.MissingImport k n c) p = (c ≡ p.check) × LacksImport k.now (string_bytes n) p.left p.right
HoldsOfPlace (fault.MissingCoreImport k m n c) p = (c ≡ p.check) × LacksCoreImport k.now (string_bytes m, string_bytes n) p.left p.right
HoldsOfPlace (fault.Core field) p = DifferInField field p.left p.right
HoldsOfPlace f p = ⊥

-- a fault of a place: of what is expected there and what is found, or of
-- its left side and its right one
abbrev pub Holds : Fault → Place → Type 0
Holds f p = by_check p.check (HoldsOfSides f) p.left p.right ⊎ HoldsOfPlace f p
