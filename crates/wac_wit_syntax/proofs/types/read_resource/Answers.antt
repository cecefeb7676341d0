-- The word of a handle, and the name between its angles.
use Rattle.wac_wit_syntax.specs.declared.token.TokenKind.TheVariants.{Word}
use Rattle.wac_wit_syntax.proofs.Finishing.{completes_failed, completes_take, completes_then}
use Rattle.wac_wit_syntax.proofs.types.read_resource.Goals as goal

pub returns-in_err-expect-clause-complete : goal.returns-in_err-expect-clause-complete
returns-in_err-expect-clause-complete c =
    completes_then (completes_take c.args.cursor.now c.take.new.self Word c.take.result (λ e. cc) c.take.ensures.token c.take.ensures.rest c.take.ensures.next)
    (completes_failed (c.in_err-expect.ensures.complete (λ e. cc)) c.from_residual.ensures)

pub returns-in_err-resource-clause-complete : goal.returns-in_err-resource-clause-complete
returns-in_err-resource-clause-complete c =
    completes_then (completes_take c.args.cursor.now c.take.new.self Word c.take.result (λ e. cc) c.take.ensures.token c.take.ensures.rest c.take.ensures.next)
    (completes_then (c.in_ok-expect.ensures.complete (λ e. cc)) (completes_failed c.in_err-resource.ensures.complete c.from_residual-in_err-resource.ensures))

pub returns-clause-complete : goal.returns-clause-complete
returns-clause-complete c =
    completes_then (completes_take c.args.cursor.now c.take.new.self Word c.take.result (λ e. cc) c.take.ensures.token c.take.ensures.rest c.take.ensures.next)
    (completes_then (c.in_ok-expect.ensures.complete (λ e. cc)) (completes_then c.in_ok-resource.ensures.complete (c.before-2.ensures.complete (λ e. cc))))
