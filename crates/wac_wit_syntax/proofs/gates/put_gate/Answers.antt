-- From the name of the attribute to its closing parenthesis.
use Rattle.std.proofs.Common.{refl, sym, subst}
use Rattle.wac_wit_syntax.specs.Cursors.{Reads}
use Rattle.wac_wit_syntax.specs.Gates.{IsGateField}
use Rattle.wac_wit_syntax.specs.declared.token.TokenKind.TheVariants.{Word}
use Rattle.wac_wit_syntax.proofs.Covering.{reads_then}
use Rattle.wac_wit_syntax.proofs.Finishing.{completes_as_failed, completes_failed, completes_take, completes_then, completes_with}
use Rattle.wac_wit_syntax.proofs.NameTokens.{reads_word}
use Rattle.wac_wit_syntax.proofs.gates.put_gate.Goals as goal

pub returns-clause-put : goal.returns-clause-put
returns-clause-put c =
    let field = subst (λ f. Reads c.expect.new.self c.read_field.new.cursor (IsGateField c.args.is_feature f)) (sym c.in_ok-field-2.ensures.value) c.in_ok-field.ensures.read in (
      c.in_ok-field-2.field,
      refl,
      λ w says.
          reads_then (reads_word c.args.cursor.now c.take.new.self c.take.result w says c.take.ensures.token c.take.ensures.rest c.take.ensures.next) (reads_then c.in_ok-expect.ensures.read (reads_then field c.in_ok-field-2.ensures.kind)),
    )

pub returns-in_err-expect-clause-complete : goal.returns-in_err-expect-clause-complete
returns-in_err-expect-clause-complete c = λ none.
    completes_then (completes_take c.args.cursor.now c.take.new.self Word c.take.result (λ e. cc) c.take.ensures.token c.take.ensures.rest c.take.ensures.next)
    (completes_failed (c.in_err-expect.ensures.complete (λ e. cc)) c.from_residual.ensures)

pub returns-in_err-field-clause-complete : goal.returns-in_err-field-clause-complete
returns-in_err-field-clause-complete c = λ none.
    completes_then (completes_take c.args.cursor.now c.take.new.self Word c.take.result (λ e. cc) c.take.ensures.token c.take.ensures.rest c.take.ensures.next)
    (completes_then (c.in_ok-expect.ensures.complete (λ e. cc)) (completes_failed c.in_err-field.ensures.complete c.from_residual-in_err-field.ensures))

pub returns-in_err-field-2-clause-complete : goal.returns-in_err-field-2-clause-complete
returns-in_err-field-2-clause-complete c = λ none.
    completes_then (completes_take c.args.cursor.now c.take.new.self Word c.take.result (λ e. cc) c.take.ensures.token c.take.ensures.rest c.take.ensures.next)
    (completes_then (c.in_ok-expect.ensures.complete (λ e. cc)) (completes_then c.in_ok-field.ensures.complete (completes_as_failed (c.in_err-field-2.ensures.complete (λ e. cc)) c.from_residual-in_err-field-2.ensures)))

pub returns-clause-complete : goal.returns-clause-complete
returns-clause-complete c = λ none.
    completes_then (completes_take c.args.cursor.now c.take.new.self Word c.take.result (λ e. cc) c.take.ensures.token c.take.ensures.rest c.take.ensures.next)
    (completes_then (c.in_ok-expect.ensures.complete (λ e. cc)) (completes_then c.in_ok-field.ensures.complete (completes_with (c.in_ok-field-2.ensures.complete (λ e. cc)))))
