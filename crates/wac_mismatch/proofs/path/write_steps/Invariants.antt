use Rattle.std.proofs.Common.{drop}
use Rattle.std.specs.Fmt.{HasWritten, IsPlainFormatter}
use Rattle.wac_mismatch.specs.Error.{steps_text}
use Rattle.wac_mismatch.proofs.path.write_steps.Given as goal

abbrev pub invariant-loop-frame : goal.invariant-loop-frame
invariant-loop-frame g l = IsPlainFormatter l.fn.f → IsPlainFormatter l.f × ((end : _) → HasWritten g.W.Write.write_str_gives l.f (steps_text (drop l.frame-index l.frames) l.fault) end → HasWritten g.W.Write.write_str_gives l.fn.f (steps_text l.frames l.fault) end)
