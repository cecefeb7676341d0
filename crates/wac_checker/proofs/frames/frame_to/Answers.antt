use Rattle.wac_model.specs.ItemTree.{item}
use Rattle.wac_checker.proofs.frames.frame_to.Goals as goal

pub returns-in-Defined : goal.returns-in-Defined
returns-in-Defined c = rw c.in-Defined.is (rw (c.defined_at.ensures, c.of-sides.ensures.left) at c.defined_frame.ensures)

pub returns-in-Func : goal.returns-in-Func
returns-in-Func c = rw c.in-Func.is (rw (c.func_at.ensures, c.of-sides.ensures.left) at (c.func_frame.ensures item))

pub returns-in-World : goal.returns-in-World
returns-in-World c = rw c.in-World.is (rw (c.world_at-a.ensures, c.world_at.ensures, c.of-sides.ensures.left, c.of-sides.ensures.right) at c.world_frame.ensures)
