-- Two names and what may stand behind them.
use Rattle.wac_wit_syntax.proofs.Finishing.{completes_as_failed, completes_failed, completes_then, completes_weaker, completes_with}
use Rattle.wac_wit_syntax.proofs.PathSteps.{package_parts}
use Rattle.wac_wit_syntax.proofs.paths.read_package_name.Goals as goal

pub returns-in_err-namespace-clause-complete : goal.returns-in_err-namespace-clause-complete
returns-in_err-namespace-clause-complete c = completes_weaker package_parts (completes_failed c.in_err-namespace.ensures.complete c.from_residual.ensures)

pub returns-in_err-name-clause-complete : goal.returns-in_err-name-clause-complete
returns-in_err-name-clause-complete c = completes_weaker package_parts (completes_then c.in_ok-namespace.ensures.complete (completes_failed c.in_err-name.ensures.complete c.from_residual-in_err-name.ensures))

pub returns-in_err-version-clause-complete : goal.returns-in_err-version-clause-complete
returns-in_err-version-clause-complete c =
    completes_weaker package_parts (completes_then c.in_ok-namespace.ensures.complete (completes_then c.in_ok-name.ensures.complete (completes_as_failed c.in_err-version.ensures.complete c.from_residual-in_err-version.ensures)))

pub returns-clause-complete : goal.returns-clause-complete
returns-clause-complete c = completes_weaker package_parts (completes_then c.in_ok-namespace.ensures.complete (completes_then c.in_ok-name.ensures.complete (completes_with c.in_ok-version.ensures.complete)))
