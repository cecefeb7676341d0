-- The sign, and the version behind it.
use Rattle.wac_wit_syntax.specs.Cursors.{source}
use Rattle.wac_wit_syntax.specs.Productions.{IsKind}
use Rattle.wac_wit_syntax.specs.declared.token.TokenKind.TheVariants.{At}
use Rattle.wac_wit_syntax.proofs.Finishing.{completes_as_failed, completes_eaten, completes_from, completes_then, completes_with}
use Rattle.wac_wit_syntax.proofs.PathSteps.{suffixed}
use Rattle.wac_wit_syntax.proofs.paths.read_suffix.Goals as goal

pub returns-in_err-read_version-clause-complete : goal.returns-in_err-read_version-clause-complete
returns-in_err-read_version-clause-complete c =
    completes_from (λ j p. suffixed (source c.args.cursor.now) c.args.cursor.now.next j (c.eat.ensures.seen c.if-not-eat.false) p)
    (completes_then (completes_eaten c.args.cursor.now c.eat.new.self c.eat.result (IsKind At) (c.eat.ensures.complete (λ e. cc))) (completes_as_failed c.in_err-read_version.ensures.complete c.from_residual.ensures))

pub returns-clause-complete : goal.returns-clause-complete
returns-clause-complete c =
    completes_from (λ j p. suffixed (source c.args.cursor.now) c.args.cursor.now.next j (c.eat.ensures.seen c.if-not-eat.false) p)
    (completes_then (completes_eaten c.args.cursor.now c.eat.new.self c.eat.result (IsKind At) (c.eat.ensures.complete (λ e. cc))) (completes_with c.in_ok-read_version.ensures.complete))
