-- A name, and the function.
use Rattle.wac_wit_syntax.proofs.Finishing.{completes_as_failed, completes_failed, completes_then, completes_with}
use Rattle.wac_wit_syntax.proofs.interfaces.read_func.Goals as goal

pub returns-in_err-name-clause-complete : goal.returns-in_err-name-clause-complete
returns-in_err-name-clause-complete c = completes_failed c.in_err-name.ensures.complete c.from_residual.ensures

pub returns-in_err-signature-clause-complete : goal.returns-in_err-signature-clause-complete
returns-in_err-signature-clause-complete c = completes_then c.in_ok-name.ensures.complete (completes_as_failed c.in_err-signature.ensures.complete c.from_residual-in_err-signature.ensures)

pub returns-clause-complete : goal.returns-clause-complete
returns-clause-complete c = completes_then c.in_ok-name.ensures.complete (completes_with c.in_ok-signature.ensures.complete)
