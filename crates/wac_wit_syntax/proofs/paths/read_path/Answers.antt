-- A name, and what stands behind it.
use Rattle.wac_wit_syntax.proofs.Finishing.{completes_failed, completes_then, completes_weaker}
use Rattle.wac_wit_syntax.proofs.PathSteps.{path_parts}
use Rattle.wac_wit_syntax.proofs.paths.read_path.Goals as goal

pub returns-in_err-first-clause-complete : goal.returns-in_err-first-clause-complete
returns-in_err-first-clause-complete c = completes_weaker path_parts (completes_failed c.in_err-first.ensures.complete c.from_residual.ensures)

pub returns-clause-complete : goal.returns-clause-complete
returns-clause-complete c = completes_weaker path_parts (completes_then c.in_ok-first.ensures.complete c.path_after.ensures.complete)
