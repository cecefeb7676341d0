-- Of whatever a fault holds does not fit.
use Rattle.std.proofs.Common.{◌≡◌, ◌≢◌, ℕ, List, [], Bool, Some, string_bytes, slice_get, length, map, refl, ap, sym, ◌∙◌, is_some, Option, None, inl, inr}
use Rattle.wac_model.specs.Text.{Text, ImportName}
use Rattle.wac_model.specs.ValueTree.{ValueTree, FuncTree, node, part_count, primitive, borrow, own, tuple, list, fixed_size_list, map_of, option, result_of, variant, record_of, flags, enum, stream, future}
use Rattle.wac_model.specs.CoreTree.{CoreTree, RefTree, CoreTypeTree, CoreFits, Serves, module_of, plain, limited, func as core_func, tag, global, table, memory}
use Rattle.wac_model.specs.ItemTree.{ItemTree, Kind, Leaf, leaf, core_module, composite, no_items, item, type_item, resource, func, value, interface, world}
use Rattle.wac_model.specs.Order.{Fits, FitsAt, leaves, modules, composites, not_asked, there}
use Rattle.wac_mismatch.specs.Place.{Side, item_side, core_side, value_side, absent, SideFits, by_check}
use Rattle.wac_mismatch.specs.Holds.{IsResource, IsCount, DifferAt, IsFixedSize, IsOfNames, IsOfResult, IsOfVariant, IsOfFunc, HoldsOfValues, HoldsOfLeaves, HoldsOfItems, IsCoreFunc, IsTableElement, IsGlobalType, HoldsOfCore, HoldsOfSides, LacksExport, LacksImport, LacksCoreImport, DifferInField, HoldsOfPlace, Holds}
use Rattle.wac_mismatch.specs.declared.check.SubtypeCheck.{SubtypeCheck}
use Rattle.wac_mismatch.specs.declared.check.SubtypeCheck.TheVariants.{Covariant, Contravariant}
use Rattle.wac_mismatch.specs.declared.fault.CountOf.{CountOf}
use Rattle.wac_mismatch.specs.declared.fault.CountOf.TheVariants as count_of
use Rattle.wac_mismatch.specs.declared.fault.NameOf.{NameOf}
use Rattle.wac_mismatch.specs.declared.fault.NameOf.TheVariants as name_of
use Rattle.wac_mismatch.specs.declared.fault.ResultPart.TheVariants as result_part
use Rattle.wac_mismatch.specs.declared.fault.CoreField.{CoreField}
use Rattle.wac_mismatch.specs.declared.fault.CoreField.TheVariants as core_field
use Rattle.wac_mismatch.specs.declared.fault.Fault.{Fault}
use Rattle.wac_mismatch.specs.declared.fault.Fault.TheVariants as fault

pub some_same : {A : Type 0} {x y : A} → Some x ≡ Some y → x ≡ y
some_same e = cc

-- lists with different elements at an index
entry_differ : {A : Type 0} (i : ℕ) (x y : A) (xs ys : List A) → x ≢ y → slice_get xs i ≡ Some x → slice_get ys i ≡ Some y → xs ≢ ys
entry_differ {A} i x y xs ys other l r same = other (some_same (sym l ∙ ap (λ (zs : List A). slice_get zs i) same ∙ r))

differ_at : (i : ℕ) (x y : Text) (xs ys : List Text) → DifferAt i x y xs ys → xs ≢ ys
differ_at i x y xs ys h = entry_differ i x y xs ys h.0 h.1 h.2

resource_differ : (f : Fault) (x y : Text) → IsResource f x y → x ≢ y
resource_differ (fault.Resource e g) x y h = h.0
resource_differ _ x y h = elim h [ ]

count_differ : (of : CountOf) (f : Fault) (x y : ℕ) → IsCount of f x y → x ≢ y
count_differ of (fault.Count o e g) x y h = h.1
count_differ of _ x y h = elim h [ ]

size_differ : (f : Fault) (x y : ℕ) → IsFixedSize f x y → x ≢ y
size_differ fault.FixedSize x y h = h
size_differ _ x y h = elim h [ ]

names_differ : (c : CountOf) (n : NameOf) (f : Fault) (xs ys : List Text) → IsOfNames c n f xs ys → xs ≢ ys
names_differ c n (fault.Count o e g) xs ys h same = h.1 (ap length same)
names_differ c n (fault.Name o i e g) xs ys h same = differ_at i (string_bytes e) (string_bytes g) xs ys h.1 same
names_differ c n _ xs ys h same = elim h [ ]

result_differ : (f : Fault) (o r o' r' : Bool) → IsOfResult f o r o' r' → result_of o r ≢ result_of o' r'
result_differ (fault.ResultPart result_part.Ok x) o r o' r' h same = h.0 (cc)
result_differ (fault.ResultPart result_part.Err x) o r o' r' h same = h.0 (cc)
result_differ _ o r o' r' h same = elim h [ ]

case_differ : (i : ℕ) (n : Text) (x y : Bool) (xs ys : List (Text × Bool)) → x ≢ y → slice_get xs i ≡ Some (n, x) → slice_get ys i ≡ Some (n, y) → xs ≢ ys
case_differ i n x y xs ys other = entry_differ i (n, x) (n, y) xs ys (λ same. other (ap (λ (p : Text × Bool). p.1) same))

variant_differ : (f : Fault) (xs ys : List (Text × Bool)) → IsOfVariant f xs ys → xs ≢ ys
variant_differ (fault.CaseType n e) xs ys h same = case_differ h.0 (string_bytes n) h.1 h.2 xs ys h.3 h.5 h.6 same
variant_differ f xs ys h same = names_differ count_of.Variant name_of.Variant f (map (λ (p : Text × Bool). p.0) xs) (map (λ (p : Text × Bool). p.0) ys) h (ap (map (λ (p : Text × Bool). p.0)) same)

func_differ : (f : Fault) (x y : FuncTree) → IsOfFunc f x y → x ≢ y
func_differ (fault.Async e) x y h same = h.0 (ap (λ (t : FuncTree). t.is_async) same)
func_differ (fault.ParamCount e g) x y h same = h.0 (ap (λ (t : FuncTree). length t.params) same)
func_differ (fault.ParamName i e g) x y h same = differ_at i (string_bytes e) (string_bytes g) (map (λ (p : Text × ValueTree). p.0) x.params) (map (λ (p : Text × ValueTree). p.0) y.params) h (ap (λ (t : FuncTree). map (λ (p : Text × ValueTree). p.0) t.params) same)
func_differ (fault.FuncResult e) x y h same = h.0 (ap (λ (t : FuncTree). is_some t.«result») same)
func_differ _ x y h same = elim h [ ]

values_differ : (f : Fault) (x y : ValueTree) → HoldsOfValues f x y → x ≢ y
values_differ f (node (primitive p) ts) (node (primitive q) us) h same = h.0 (cc)
values_differ f (node (borrow r) ts) (node (borrow s) us) h same = resource_differ f r s h (cc)
values_differ f (node (own r) ts) (node (own s) us) h same = resource_differ f r s h (cc)
values_differ f (node tuple ts) (node tuple us) h same = let parts : ts ≡ us = cc in count_differ count_of.Tuple f (part_count ts) (part_count us) h (ap part_count parts)
values_differ f (node list ts) (node list us) h same = elim h [ ]
values_differ f (node (fixed_size_list m) ts) (node (fixed_size_list n) us) h same = size_differ f m n h (cc)
values_differ f (node map_of ts) (node map_of us) h same = elim h [ ]
values_differ f (node option ts) (node option us) h same = elim h [ ]
values_differ f (node (result_of o r) ts) (node (result_of o' r') us) h same = result_differ f o r o' r' h (cc)
values_differ f (node (variant xs) ts) (node (variant ys) us) h same = variant_differ f xs ys h (cc)
values_differ f (node (record_of xs) ts) (node (record_of ys) us) h same = names_differ count_of.Record name_of.Record f xs ys h (cc)
values_differ f (node (flags xs) ts) (node (flags ys) us) h same = names_differ count_of.Flags name_of.Flags f xs ys h (cc)
values_differ f (node (enum xs) ts) (node (enum ys) us) h same = names_differ count_of.Enum name_of.Enum f xs ys h (cc)
values_differ f (node (stream p) ts) (node (stream q) us) h same = elim h [ ]
values_differ f (node (future p) ts) (node (future q) us) h same = elim h [ ]
values_differ f x y h same = cc

leaves_differ : (f : Fault) (k : Kind) (x y : Leaf) → HoldsOfLeaves f k x y → x ≢ y
leaves_differ f k (resource r) (resource s) h same = resource_differ f r s h (cc)
leaves_differ f k (func x) (func y) h same = func_differ f x y h (cc)
leaves_differ f k (value x) (value y) h same = values_differ f x y h (cc)
leaves_differ f k x y h same = cc

-- what an item is, but for what an interface, a world or a module imports and exports
abbrev outline : ItemTree → ItemTree
outline (leaf k l) = leaf k l
outline (core_module k m) = core_module k (module_of (record { imports = []; exports = [] }))
outline (composite k s is es) = composite k s no_items no_items

outline-same : {a b : ItemTree} → Fits a b → outline a ≡ outline b
outline-same leaves = refl
outline-same (modules p) = refl
outline-same (composites p q) = refl

items_differ : (f : Fault) (x y : ItemTree) → HoldsOfItems f x y → outline x ≢ outline y
items_differ f (leaf item x) (leaf item y) h same = leaves_differ f item x y h (cc)
items_differ f (leaf type_item x) (leaf type_item y) h same = leaves_differ f type_item x y h (cc)
items_differ f (core_module item m) (core_module item n) h same = elim h [ ]
items_differ f (core_module type_item m) (core_module type_item n) h same = elim h [ ]
items_differ f (composite item interface is es) (composite item interface is' es') h same = elim h [ ]
items_differ f (composite item world is es) (composite item world is' es') h same = elim h [ ]
items_differ f (composite type_item interface is es) (composite type_item interface is' es') h same = elim h [ ]
items_differ f (composite type_item world is es) (composite type_item world is' es') h same = elim h [ ]
items_differ f x y h same = cc

-- what a core extern is, but for its limits
abbrev core_outline : CoreTree → CoreTree
core_outline (plain l) = plain l
core_outline (limited l limits) = limited l (record { initial = 0; maximum = None })

core_outline-same : (a b : CoreTree) → CoreFits a b → core_outline a ≡ core_outline b
core_outline-same (limited k a) (limited l b) h = ap (λ x. limited x (record { initial = 0; maximum = None })) h.0
core_outline-same (limited k a) (plain l) h = absurd (cc)
core_outline-same (plain k) (limited l b) h = absurd (cc)
core_outline-same (plain k) (plain l) h = h

core_func_differ : (f : Fault) (x y : List CoreTypeTree × List CoreTypeTree) → IsCoreFunc f x y → x ≢ y
core_func_differ (fault.CoreFunc e g) x y h = h.0
core_func_differ _ x y h = elim h [ ]

element_differ : (f : Fault) (x y : RefTree) → IsTableElement f x y → x ≢ y
element_differ (fault.TableElement e g) x y h = h.0
element_differ _ x y h = elim h [ ]

global_differ : (f : Fault) (x y : CoreTypeTree) → IsGlobalType f x y → x ≢ y
global_differ (fault.GlobalType e g) x y h = h.0
global_differ _ x y h = elim h [ ]

pair_same : {A B : Type 0} (x x' : A) (y y' : B) → x ≡ x' → y ≡ y' → (let p : A × B = (x, y) in p) ≡ (x', y')
pair_same x x' y y' e g = λ i. (e i, g i)

core_differ : (f : Fault) (x y : CoreTree) → HoldsOfCore f x y → core_outline x ≢ core_outline y
core_differ f (plain (core_func ps rs)) (plain (core_func ps' rs')) h same = core_func_differ f (ps, rs) (ps', rs') h (pair_same ps ps' rs rs' (cc) (cc))
core_differ f (plain (tag ps rs)) (plain (tag ps' rs')) h same = core_func_differ f (ps, rs) (ps', rs') h (pair_same ps ps' rs rs' (cc) (cc))
core_differ f (plain (global v m s)) (plain (global v' m' s')) h same = global_differ f v v' h (cc)
core_differ f (limited (table e t s) l) (limited (table e' t' s') l') h same = element_differ f e e' h (cc)
core_differ f (limited (memory m s p) l) (limited (memory m' s' p') l') h same = elim h [ ]
core_differ f x y h same = cc

-- neither side fits where the other is asked for
expected_refutes : (f : Fault) (x y : Side) → HoldsOfSides f x y → SideFits x y → ⊥
expected_refutes f (item_side x) (item_side y) h fits = items_differ f x y h (outline-same fits)
expected_refutes f (core_side x) (core_side y) h fits = core_differ f x y h (core_outline-same x y fits)
expected_refutes f (value_side x) (value_side y) h fits = values_differ f x y h fits
expected_refutes f absent absent h fits = elim h [ ]
expected_refutes f x y h fits = elim fits [ ]

found_refutes : (f : Fault) (x y : Side) → HoldsOfSides f x y → SideFits y x → ⊥
found_refutes f (item_side x) (item_side y) h fits = items_differ f x y h (sym (outline-same fits))
found_refutes f (core_side x) (core_side y) h fits = core_differ f x y h (sym (core_outline-same y x fits))
found_refutes f (value_side x) (value_side y) h fits = values_differ f x y h (sym fits)
found_refutes f absent absent h fits = elim h [ ]
found_refutes f x y h fits = elim fits [ ]

sides_refute : (f : Fault) (c : SubtypeCheck) (a b : Side) → by_check c (HoldsOfSides f) a b → SideFits a b → ⊥
sides_refute f Covariant a b h = found_refutes f b a h
sides_refute f Contravariant a b h = expected_refutes f a b h

-- what is lacking refutes that the left side fits
not_there : {a b : Option ItemTree} → FitsAt a b → a ≡ None → (t : ItemTree) → b ≡ Some t → ⊥
not_there not_asked none t some = cc
not_there (there p) none t some = cc

core_not_there : (a b : Option CoreTree) → Serves CoreFits a b → a ≡ None → (t : CoreTree) → b ≡ Some t → ⊥
core_not_there a None h none t some = cc
core_not_there None (Some u) h none t some = h
core_not_there (Some s) (Some u) h none t some = cc

export_refutes : (h k n : Text) (a b : Side) → LacksExport h k n a b → SideFits a b → ⊥
export_refutes h k n (item_side (composite i s is es)) (item_side (composite i' s' is' es')) lacks (composites p q) = not_there (p n) lacks.3 lacks.4.0 lacks.4.1
export_refutes h k n (item_side (core_module i m)) (item_side (core_module i' m')) lacks (modules p) = core_not_there _ _ (p.exports n) lacks.2 lacks.3.0 lacks.3.1
export_refutes h k n a b lacks fits = elim lacks [ ]

import_refutes : (k n : Text) (a b : Side) → LacksImport k n a b → SideFits a b → ⊥
import_refutes k n (item_side (composite i world is es)) (item_side (composite i' world is' es')) lacks (composites p q) = not_there (q n) lacks.1 lacks.2.0 lacks.2.1
import_refutes k n a b lacks fits = elim lacks [ ]

core_import_refutes : (k : Text) (n : ImportName) (a b : Side) → LacksCoreImport k n a b → SideFits a b → ⊥
core_import_refutes k n (item_side (core_module i m)) (item_side (core_module i' m')) lacks (modules p) = core_not_there _ _ (p.imports n) lacks.1 lacks.2.0 lacks.2.1
core_import_refutes k n a b lacks fits = elim lacks [ ]

field_refutes : (field : CoreField) (a b : Side) → DifferInField field a b → SideFits a b → ⊥
field_refutes core_field.TableLimits (core_side (limited (table e t s) l)) (core_side (limited (table e' t' s') l')) h fits = h fits.1
field_refutes core_field.Table64 (core_side (limited (table e t s) l)) (core_side (limited (table e' t' s') l')) h fits = let same = fits.0 in h (cc)
field_refutes core_field.TableShared (core_side (limited (table e t s) l)) (core_side (limited (table e' t' s') l')) h fits = let same = fits.0 in h (cc)
field_refutes core_field.MemoryShared (core_side (limited (memory m s p) l)) (core_side (limited (memory m' s' p') l')) h fits = let same = fits.0 in h (cc)
field_refutes core_field.Memory64 (core_side (limited (memory m s p) l)) (core_side (limited (memory m' s' p') l')) h fits = let same = fits.0 in h (cc)
field_refutes core_field.MemoryLimits (core_side (limited (memory m s p) l)) (core_side (limited (memory m' s' p') l')) h fits = h fits.1
field_refutes core_field.PageSizeLog2 (core_side (limited (memory m s p) l)) (core_side (limited (memory m' s' p') l')) h fits = let same = fits.0 in h (cc)
field_refutes core_field.GlobalMutable (core_side (plain (global v m s))) (core_side (plain (global v' m' s'))) h fits = h (cc)
field_refutes core_field.GlobalShared (core_side (plain (global v m s))) (core_side (plain (global v' m' s'))) h fits = h (cc)
field_refutes field a b h fits = elim h [ ]

-- a fault of a place refutes its left side
place_refutes : (f : Fault) (c : SubtypeCheck) (a b : Side) → HoldsOfPlace f (record { check = c; left = a; right = b }) → SideFits a b → ⊥
place_refutes (fault.MissingExport h k n check) c a b holds = export_refutes h.now k.now (string_bytes n) a b holds.1
place_refutes (fault.MissingImport k n check) c a b holds = import_refutes k.now (string_bytes n) a b holds.1
place_refutes (fault.MissingCoreImport k m n check) c a b holds = core_import_refutes k.now (string_bytes m, string_bytes n) a b holds.1
place_refutes (fault.Core field) c a b holds = field_refutes field a b holds
place_refutes f c a b holds = elim holds [ ]

pub holds_refutes : (f : Fault) (c : SubtypeCheck) (a b : Side) → Holds f (record { check = c; left = a; right = b }) → SideFits a b → ⊥
holds_refutes f c a b (inl h) = sides_refute f c a b h
holds_refutes f c a b (inr h) = place_refutes f c a b h
