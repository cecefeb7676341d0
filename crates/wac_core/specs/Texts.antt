-- The texts of core types (WebAssembly core specification, "Text Format").
use Rattle.std.specs.Prelude.{List, [], ◌∷◌, codes, decimal, true, false}
use Rattle.wac_model.specs.Text.{Text, joined}
use Rattle.wac_model.specs.CoreTree.{HeapTree, concrete, func_heap, extern, any, none, noextern, nofunc, eq, struct, array, i31, exn, noexn, cont, nocont, RefTree, CoreTypeTree, i32, i64, f32, f64, v128, ref, CoreTree, CoreLabel, LimitedLabel, plain, limited, func, tag, global, table, memory}

-- a reference that may be null
abbrev pub nullable_text : HeapTree → Text
nullable_text (concrete i) = joined (codes "(ref null " ∷ decimal i ∷ codes ")" ∷ [])
nullable_text func_heap = codes "funcref"
nullable_text extern = codes "externref"
nullable_text any = codes "anyref"
nullable_text none = codes "nullref"
nullable_text noextern = codes "nullexternref"
nullable_text nofunc = codes "nullfuncref"
nullable_text eq = codes "eqref"
nullable_text struct = codes "structref"
nullable_text array = codes "arrayref"
nullable_text i31 = codes "i31ref"
nullable_text exn = codes "exnref"
nullable_text noexn = codes "nullexnref"
nullable_text cont = codes "contref"
nullable_text nocont = codes "nullcontref"

-- a reference that is never null
abbrev pub heap_text : HeapTree → Text
heap_text (concrete i) = joined (codes "(ref " ∷ decimal i ∷ codes ")" ∷ [])
heap_text func_heap = codes "(ref func)"
heap_text extern = codes "(ref extern)"
heap_text any = codes "(ref any)"
heap_text none = codes "(ref none)"
heap_text noextern = codes "(ref noextern)"
heap_text nofunc = codes "(ref nofunc)"
heap_text eq = codes "(ref eq)"
heap_text struct = codes "(ref struct)"
heap_text array = codes "(ref array)"
heap_text i31 = codes "(ref i31)"
heap_text exn = codes "(ref exn)"
heap_text noexn = codes "(ref noexn)"
heap_text cont = codes "(ref cont)"
heap_text nocont = codes "(ref nocont)"

abbrev pub ref_text : RefTree → Text
ref_text t = elim t.nullable [ true ↦ nullable_text t.heap_type | false ↦ heap_text t.heap_type ]

abbrev pub core_type_text : CoreTypeTree → Text
core_type_text i32 = codes "i32"
core_type_text i64 = codes "i64"
core_type_text f32 = codes "f32"
core_type_text f64 = codes "f64"
core_type_text v128 = codes "v128"
core_type_text (ref t) = ref_text t

-- the types, with commas between them
abbrev pub core_types_text : List CoreTypeTree → Text
core_types_text [] = []
core_types_text (t ∷ []) = core_type_text t
core_types_text (t ∷ u ∷ ts) = joined (core_type_text t ∷ codes ", " ∷ core_types_text (u ∷ ts) ∷ [])

abbrev pub core_func_text : List CoreTypeTree → List CoreTypeTree → Text
core_func_text params results = joined (codes "[" ∷ core_types_text params ∷ codes "] -> [" ∷ core_types_text results ∷ codes "]" ∷ [])

abbrev pub label_text : CoreLabel → Text
label_text (func params results) = codes "function"
label_text (tag params results) = codes "tag"
label_text (global val_type mutable shared) = codes "global"

abbrev pub limited_text : LimitedLabel → Text
limited_text (table element table64 shared) = codes "table"
limited_text (memory memory64 shared page_size_log2) = codes "memory"

-- the sort of a core extern
abbrev pub core_extern_text : CoreTree → Text
core_extern_text (plain label) = label_text label
core_extern_text (limited label limits) = limited_text label
