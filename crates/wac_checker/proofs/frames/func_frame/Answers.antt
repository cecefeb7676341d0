use Rattle.std.proofs.Common.{arith}
use Rattle.wac_component.specs.Tree.{func_tree}
use Rattle.wac_checker_parts.proofs.FuncPartLemmas.{param_frame_at}
use Rattle.wac_checker.proofs.frames.func_frame.Goals as goal

pub returns-then-index-len : goal.returns-then-index-len
returns-then-index-len c = param_frame_at c.args.types.now c.index.result.now (func_tree c.args.types.now c.args.id) c.args.index c.in_ok-name_of.field-0 c.index.ensures.tree (omega arith) c.in_ok-name_of.ensures.name
