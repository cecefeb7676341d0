-- The token behind what was read.
use Rattle.wac_wit_syntax.proofs.Finishing.{completes_as_failed, completes_with}
use Rattle.wac_wit_syntax.proofs.cursor.Cursor.before.Goals as goal

pub returns-in_err-expect-clause-complete : goal.returns-in_err-expect-clause-complete
returns-in_err-expect-clause-complete g c = λ solid. completes_as_failed (c.in_err-expect.ensures.complete solid) c.from_residual.ensures

pub returns-clause-complete : goal.returns-clause-complete
returns-clause-complete g c = λ solid. completes_with (c.in_ok-expect.ensures.complete solid)
