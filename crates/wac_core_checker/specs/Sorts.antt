-- The core externs that their sorts stand for.
use Rattle.wac_model.specs.CoreTree.{CoreTree, plain, func, tag}
use Rattle.wac_core.specs.Content.{core_func_content}
use Rattle.wac_core_checker.specs.Fields.{table_tree, memory_tree, global_tree}
use Rattle.wac_core_checker.specs.declared.externs.Sort.{Sort}
use Rattle.wac_core_checker.specs.declared.externs.Sort.TheVariants as sort

abbrev pub sort_tree : Sort → CoreTree
sort_tree (sort.Func f) = plain (func (core_func_content f.now).0 (core_func_content f.now).1)
sort_tree (sort.Table t) = table_tree t
sort_tree (sort.Memory m) = memory_tree m
sort_tree (sort.Global g) = global_tree g
sort_tree (sort.Tag f) = plain (tag (core_func_content f.now).0 (core_func_content f.now).1)
