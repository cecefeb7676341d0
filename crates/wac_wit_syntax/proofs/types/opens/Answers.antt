-- The angle behind the word, or none.
use Rattle.std.proofs.Common.{sym, ◌∙◌}
use Rattle.wac_wit_syntax.proofs.TypesGone.{opens_eaten, opens_expected, opens_failed}
use Rattle.wac_wit_syntax.proofs.types.opens.Goals as goal

pub returns-then-stands_alone-clause-complete : goal.returns-then-stands_alone-clause-complete
returns-then-stands_alone-clause-complete c =
    opens_eaten c.args.cursor.now c.eat.new.self c.args.word c.eat.result (sym c.stands_alone.ensures ∙ c.if-stands_alone.true) (c.eat.ensures.complete (λ e. cc)) c.eat.ensures.left c.eat.ensures.seen

pub returns-in_err-expect-clause-complete : goal.returns-in_err-expect-clause-complete
returns-in_err-expect-clause-complete c =
    opens_failed c.args.cursor.now c.expect.new.self c.expect.new.self c.args.word c.from_residual.result (sym c.stands_alone.ensures ∙ c.if-stands_alone.false) (c.in_err-expect.ensures.complete (λ e. cc)) c.from_residual.ensures

pub returns-clause-complete : goal.returns-clause-complete
returns-clause-complete c = opens_expected c.args.cursor.now c.expect.new.self c.args.word (sym c.stands_alone.ensures ∙ c.if-stands_alone.false) (c.in_ok-expect.ensures.complete (λ e. cc))
