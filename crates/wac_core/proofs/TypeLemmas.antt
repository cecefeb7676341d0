-- What `==` of core types says of their trees.
use denote.Struct.Field.{Field}
use denote.Struct.Values.{Values}
use denote.Enum.Declared.{Choice, values_one}
use denote.Enum.Compared.{Each, by}
use Rattle.std.proofs.Common.{◌≡◌, [], ◌∷◌, List, map, Bool, true, false, not, ◌&&◌, refl, sym, ap, ◌∙◌, inl, inr, rules}
use Rattle.std.specs.Cmp.Lexicographic.{pointwise}
use Rattle.std.specs.Bool.{Decides, beq}
use Rattle.std.proofs.lemmas.Slice.Eq.{slice_eq-Decides}
use Rattle.wac_model.specs.CoreTree.{HeapTree, concrete, func_heap, extern, any, none, noextern, nofunc, eq, struct, array, i31, exn, noexn, cont, nocont, RefTree, CoreTypeTree, i32, i64, f32, f64, v128, ref}
use Rattle.wac_core.specs.Content.{heap_tree, ref_tree, core_type_tree, core_func_content}
use Rattle.wac_core.specs.contracts.values.HeapType as heaps
use Rattle.wac_core.specs.contracts.values.CoreType as types
use Rattle.wac_core.specs.declared.values.HeapType.{HeapType}
use Rattle.wac_core.specs.declared.values.HeapType.TheVariants as heap
use Rattle.wac_core.specs.declared.values.CoreRefType.{CoreRefType}
use Rattle.wac_core.specs.declared.values.CoreType.{CoreType}
use Rattle.wac_core.specs.declared.values.CoreType.TheVariants as core
use Rattle.wac_core.specs.declared.values.CoreFuncType.{CoreFuncType}
use Rattle.wac_core.specs.contracts.values.HeapTypePartialEq.TheImpl.{ghosts as of_heaps}
use Rattle.wac_core.specs.contracts.values.CoreRefTypePartialEq.TheImpl.{ghosts as of_refs}
use Rattle.wac_core.specs.contracts.values.CoreTypePartialEq.TheImpl.{ghosts as of_types}
use Rattle.wac_core.specs.contracts.values.CoreFuncTypePartialEq.TheImpl.{ghosts as of_funcs}

-- `==` of an enum tells its values apart, if it tells the fields of each variant apart
abbrev Exact : (Fss : List (List Field)) → Each Bool Fss → Type 0
Exact [] each = Unit {0}
Exact (Fs ∷ Fss) each = ((xs ys : Values Fs) → each.0 xs ys ≡ true → xs ≡ ys) × Exact Fss each.1

choice_exact : (Fss : List (List Field)) (each : Each Bool Fss) → Exact Fss each → (c d : Choice Fss) → by false false Fss each c d ≡ true → c ≡ d
choice_exact [] each exact c d h = absurd c
choice_exact (Fs ∷ Fss) each exact (inl xs) (inl ys) h = ap inl (exact.0 xs ys h)
choice_exact (Fs ∷ Fss) each exact (inl xs) (inr d) h = absurd (cc)
choice_exact (Fs ∷ Fss) each exact (inr c) (inl ys) h = absurd (cc)
choice_exact (Fs ∷ Fss) each exact (inr c) (inr d) h = ap inr (choice_exact Fss each.1 exact.1 c d h)

heap_exact : (x y : HeapType) → of_heaps.eq x y ≡ true → x ≡ y
heap_exact x y h = values_one heaps.enum x y (choice_exact heaps.the_parts _ (search rules) (heaps.as_values x) (heaps.as_values y) h)

-- both of two tests
pub and_left : (a b : Bool) → (a && b) ≡ true → a ≡ true
and_left true b h = refl
and_left false b h = h

pub and_right : (a b : Bool) → (a && b) ≡ true → b ≡ true
and_right true b h = h
and_right false b h = absurd (cc)

bool_exact : (a b : Bool) → beq a b ≡ true → a ≡ b
bool_exact a b h = search rules

ref_of_parts : (x y : CoreRefType) → x.nullable ≡ y.nullable → x.heap_type ≡ y.heap_type → x ≡ y
ref_of_parts x y e f = λ i. record { nullable = e i; heap_type = f i }

pub ref_exact : (x y : CoreRefType) → of_refs.eq x y ≡ true → x ≡ y
ref_exact x y h =
    ref_of_parts x y
    (bool_exact x.nullable y.nullable (and_left (beq x.nullable y.nullable) (of_heaps.eq x.heap_type y.heap_type) h))
    (heap_exact x.heap_type y.heap_type (and_right (beq x.nullable y.nullable) (of_heaps.eq x.heap_type y.heap_type) h))

-- the fields of a reference's variant
field_exact : (xs ys : CoreRefType × Unit {0}) → of_refs.eq xs.0 ys.0 ≡ true → xs ≡ ys
field_exact xs ys h = λ i. (ref_exact xs.0 ys.0 h i, tt)

pub type_exact : (x y : CoreType) → of_types.eq x y ≡ true → x ≡ y
type_exact x y h = values_one types.enum x y (choice_exact types.the_parts _ (search (rules, field_exact)) (types.as_values x) (types.as_values y) h)

type_equal : (x : CoreType) → of_types.eq x x ≡ true
type_equal x = search rules

type_decides : (x y : CoreType) → Decides (of_types.eq x y) (x ≡ y)
type_decides x y = (type_exact x y, λ e. rw e (type_equal y))

-- lists of types that `==` doesn't tell apart are one
types_decide : (xs ys : List CoreType) → Decides (pointwise of_types.eq xs ys) (xs ≡ ys)
types_decide xs ys = slice_eq-Decides type_decides xs ys (pointwise of_types.eq xs ys) refl

-- the heap type that a tree is of
heap_of : HeapTree → HeapType
heap_of (concrete i) = heap.Concrete i
heap_of func_heap = heap.Func
heap_of extern = heap.Extern
heap_of any = heap.Any
heap_of none = heap.None
heap_of noextern = heap.NoExtern
heap_of nofunc = heap.NoFunc
heap_of eq = heap.Eq
heap_of struct = heap.Struct
heap_of array = heap.Array
heap_of i31 = heap.I31
heap_of exn = heap.Exn
heap_of noexn = heap.NoExn
heap_of cont = heap.Cont
heap_of nocont = heap.NoCont

heap_of-tree : (h : HeapType) → heap_of (heap_tree h) ≡ h
unfolding heap_of
heap_of-tree (heap.Concrete i) = refl
heap_of-tree heap.Func = refl
heap_of-tree heap.Extern = refl
heap_of-tree heap.Any = refl
heap_of-tree heap.None = refl
heap_of-tree heap.NoExtern = refl
heap_of-tree heap.NoFunc = refl
heap_of-tree heap.Eq = refl
heap_of-tree heap.Struct = refl
heap_of-tree heap.Array = refl
heap_of-tree heap.I31 = refl
heap_of-tree heap.Exn = refl
heap_of-tree heap.NoExn = refl
heap_of-tree heap.Cont = refl
heap_of-tree heap.NoCont = refl

ref_of : RefTree → CoreRefType
ref_of t = record { nullable = t.nullable; heap_type = heap_of t.heap_type }

ref_of-tree : (t : CoreRefType) → ref_of (ref_tree t) ≡ t
unfolding ref_of
ref_of-tree t = ap (λ h. let r : CoreRefType = record { nullable = t.nullable; heap_type = h } in r) (heap_of-tree t.heap_type)

type_of : CoreTypeTree → CoreType
type_of i32 = core.I32
type_of i64 = core.I64
type_of f32 = core.F32
type_of f64 = core.F64
type_of v128 = core.V128
type_of (ref t) = core.Ref (ref_of t)

type_of-tree : (t : CoreType) → type_of (core_type_tree t) ≡ t
unfolding type_of
type_of-tree core.I32 = refl
type_of-tree core.I64 = refl
type_of-tree core.F32 = refl
type_of-tree core.F64 = refl
type_of-tree core.V128 = refl
type_of-tree (core.Ref t) = ap core.Ref (ref_of-tree t)

types_of-trees : (ts : List CoreType) → map type_of (map core_type_tree ts) ≡ ts
types_of-trees [] = refl
types_of-trees (t ∷ ts) = λ i. type_of-tree t i ∷ types_of-trees ts i

-- lists of value types whose trees are one are one
types_same : (xs ys : List CoreType) → map core_type_tree xs ≡ map core_type_tree ys → xs ≡ ys
types_same xs ys e = sym (types_of-trees xs) ∙ ap (map type_of) e ∙ types_of-trees ys

pub and_both : (a b : Bool) → a ≡ true → b ≡ true → (a && b) ≡ true
and_both true b h g = g
and_both false b h g = h

-- function types that `==` doesn't tell apart have one content, and those
-- that it tells apart have others
pub func_decides : (x y : CoreFuncType) → Decides (of_funcs.eq x y) (core_func_content x ≡ core_func_content y)
func_decides x y =
    let params : Bool = pointwise of_types.eq x.params.items y.params.items in
    let results : Bool = pointwise of_types.eq x.results.items y.results.items in (
      (λ h. λ i. (map core_type_tree ((types_decide x.params.items y.params.items).0 (and_left params results h) i), map core_type_tree ((types_decide x.results.items y.results.items).0 (and_right params results h) i))),
      (λ e. and_both params results
          ((types_decide x.params.items y.params.items).1 (types_same x.params.items y.params.items (ap (λ (p : List CoreTypeTree × List CoreTypeTree). p.0) e)))
          ((types_decide x.results.items y.results.items).1 (types_same x.results.items y.results.items (ap (λ (p : List CoreTypeTree × List CoreTypeTree). p.1) e)))),
    )

-- what `!=` doesn't tell apart, `==` says is one
pub was_true : (b r : Bool) → r ≡ not b → r ≡ false → b ≡ true
was_true true r e f = refl
was_true false r e f = absurd (cc)
