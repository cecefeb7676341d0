-- A name, and the type behind it.
use Rattle.wac_wit_syntax.proofs.Finishing.{completes_as_failed, completes_failed, completes_then, completes_weaker, completes_with}
use Rattle.wac_wit_syntax.proofs.ItemsLeft.{case_parts}
use Rattle.wac_wit_syntax.proofs.typedefs.CaseMember.read.Goals as goal

pub returns-in_err-name-clause-complete : goal.returns-in_err-name-clause-complete
returns-in_err-name-clause-complete c = completes_weaker case_parts (completes_failed c.in_err-name.ensures.complete c.from_residual.ensures)

pub returns-in_err-ty-clause-complete : goal.returns-in_err-ty-clause-complete
returns-in_err-ty-clause-complete c = completes_weaker case_parts (completes_then c.in_ok-name.ensures.complete (completes_as_failed c.in_err-ty.ensures.complete c.from_residual-in_err-ty.ensures))

pub returns-clause-complete : goal.returns-clause-complete
returns-clause-complete c = completes_weaker case_parts (completes_then c.in_ok-name.ensures.complete (completes_with c.in_ok-ty.ensures.complete))
