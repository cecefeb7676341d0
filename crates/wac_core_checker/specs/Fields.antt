-- The trees that the fields of core externs stand for.
use Rattle.wac_model.specs.CoreTree.{CoreTree, Limits, plain, limited, table, memory, global}
use Rattle.wac_core.specs.Content.{ref_tree, core_type_tree}
use Rattle.wac_core_checker.specs.declared.fields.LimitsType.{LimitsType}
use Rattle.wac_core_checker.specs.declared.fields.TableType.{TableType}
use Rattle.wac_core_checker.specs.declared.fields.MemoryType.{MemoryType}
use Rattle.wac_core_checker.specs.declared.fields.GlobalType.{GlobalType}

abbrev pub declared_limits : LimitsType → Limits
declared_limits l = record { initial = l.initial; maximum = l.maximum }

abbrev pub table_tree : TableType → CoreTree
table_tree t = limited (table (ref_tree t.element_type) t.table64 t.shared) (declared_limits t.limits)

abbrev pub memory_tree : MemoryType → CoreTree
memory_tree m = limited (memory m.memory64 m.shared m.page_size_log2) (declared_limits m.limits)

abbrev pub global_tree : GlobalType → CoreTree
global_tree g = plain (global (core_type_tree g.val_type) g.mutable g.shared)
