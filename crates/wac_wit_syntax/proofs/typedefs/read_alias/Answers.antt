-- A type behind its sign.
use Rattle.wac_wit_syntax.proofs.Finishing.{completes_failed, completes_then, completes_weaker}
use Rattle.wac_wit_syntax.proofs.ItemsLeft.{alias_parts}
use Rattle.wac_wit_syntax.proofs.typedefs.read_alias.Goals as goal

pub returns-in_err-expect-clause-complete : goal.returns-in_err-expect-clause-complete
returns-in_err-expect-clause-complete c = completes_weaker alias_parts (completes_failed (c.in_err-expect.ensures.complete (λ e. cc)) c.from_residual.ensures)

pub returns-in_err-ty-clause-complete : goal.returns-in_err-ty-clause-complete
returns-in_err-ty-clause-complete c = completes_weaker alias_parts (completes_then (c.in_ok-expect.ensures.complete (λ e. cc)) (completes_failed c.in_err-ty.ensures.complete c.from_residual-in_err-ty.ensures))

pub returns-clause-complete : goal.returns-clause-complete
returns-clause-complete c = completes_weaker alias_parts (completes_then (c.in_ok-expect.ensures.complete (λ e. cc)) (completes_then c.in_ok-ty.ensures.complete (c.ended.ensures.complete)))
