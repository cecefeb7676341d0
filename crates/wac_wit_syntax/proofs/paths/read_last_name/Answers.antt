-- A name with no colon behind it.
use Rattle.wac_wit_syntax.specs.declared.token.TokenKind.TheVariants.{Colon}
use Rattle.wac_wit_syntax.proofs.Finishing.{completes_as_failed, completes_weaker, kind_there}
use Rattle.wac_wit_syntax.proofs.paths.read_last_name.Goals as goal

pub returns-in_err-name-clause-complete : goal.returns-in_err-name-clause-complete
returns-in_err-name-clause-complete c = completes_as_failed (completes_weaker (λ s i j p. p.0) c.in_err-name.ensures.complete) c.from_residual.ensures

pub returns-then-sees-clause-complete : goal.returns-then-sees-clause-complete
returns-then-sees-clause-complete c = record {
  ends = λ cut j p.
      absurd (p.1 (kind_there c.args.cursor.now c.ident.new.self j Colon (c.in_ok-name.ensures.complete.ends cut j p.0).ok (c.sees.ensures.seen c.if-sees.true)));
}

pub returns-clause-complete : goal.returns-clause-complete
returns-clause-complete c = completes_weaker (λ s i j p. p.0) c.in_ok-name.ensures.complete
