-- The word, and what it names.
use Rattle.wac_wit_syntax.specs.declared.token.TokenKind.TheVariants.{Word}
use Rattle.wac_wit_syntax.proofs.Finishing.{completes_as_failed, completes_take, completes_then, completes_with}
use Rattle.wac_wit_syntax.proofs.worlds.read_extern_item.Goals as goal

pub returns-in_err-what-clause-complete : goal.returns-in_err-what-clause-complete
returns-in_err-what-clause-complete c = completes_then (completes_take c.args.cursor.now c.take.new.self Word c.take.result (λ e. cc) c.take.ensures.token c.take.ensures.rest c.take.ensures.next) (completes_as_failed c.in_err-what.ensures.complete c.from_residual.ensures)

pub returns-clause-complete : goal.returns-clause-complete
returns-clause-complete c = completes_then (completes_take c.args.cursor.now c.take.new.self Word c.take.result (λ e. cc) c.take.ensures.token c.take.ensures.rest c.take.ensures.next) (completes_with c.in_ok-what.ensures.complete)
