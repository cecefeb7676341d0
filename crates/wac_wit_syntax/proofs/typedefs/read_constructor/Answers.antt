-- The word, and a function behind it.
use Rattle.wac_wit_syntax.specs.declared.token.TokenKind.TheVariants.{Word}
use Rattle.wac_wit_syntax.proofs.Finishing.{completes_as_failed, completes_take, completes_then, completes_with}
use Rattle.wac_wit_syntax.proofs.typedefs.read_constructor.Goals as goal

pub returns-in_err-signature-clause-complete : goal.returns-in_err-signature-clause-complete
returns-in_err-signature-clause-complete c = completes_then (completes_take c.args.cursor.now c.take.new.self Word c.take.result (λ e. cc) c.take.ensures.token c.take.ensures.rest c.take.ensures.next) (completes_as_failed c.in_err-signature.ensures.complete c.from_residual.ensures)

pub returns-clause-complete : goal.returns-clause-complete
returns-clause-complete c = completes_then (completes_take c.args.cursor.now c.take.new.self Word c.take.result (λ e. cc) c.take.ensures.token c.take.ensures.rest c.take.ensures.next) (completes_with c.in_ok-signature.ensures.complete)
