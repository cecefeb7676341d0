-- The arrow and the type behind it, or none.
use Rattle.wac_wit_syntax.specs.Cursors.{source}
use Rattle.wac_wit_syntax.specs.Productions.{IsKind}
use Rattle.wac_wit_syntax.specs.declared.token.TokenKind.TheVariants.{Arrow}
use Rattle.wac_wit_syntax.proofs.Finishing.{completes_as_failed, completes_eaten, completes_from, completes_then, completes_with}
use Rattle.wac_wit_syntax.proofs.ItemsLeft.{no_paren, no_returns, returns_parts}
use Rattle.wac_wit_syntax.proofs.functions.read_returns.Goals as goal

pub returns-then-not-eat-clause-complete : goal.returns-then-not-eat-clause-complete
returns-then-not-eat-clause-complete c = no_returns c.args.cursor.now c.eat.new.self c.eat.result (c.eat.ensures.complete (λ e. cc)) c.if-not-eat.true (c.eat.ensures.left c.if-not-eat.true)

pub returns-then-sees-clause-complete : goal.returns-then-sees-clause-complete
returns-then-sees-clause-complete c = record {
  ends = λ cut j p. absurd (no_paren c.args.cursor.now c.eat.new.self c.eat.result j cut (c.eat.ensures.seen c.if-not-eat.false) (c.eat.ensures.complete (λ e. cc)) p (c.sees.ensures.seen c.if-sees.true));
}

pub returns-in_err-read_type-clause-complete : goal.returns-in_err-read_type-clause-complete
returns-in_err-read_type-clause-complete c = completes_from (λ j p. returns_parts (source c.args.cursor.now) c.args.cursor.now.next j (c.eat.ensures.seen c.if-not-eat.false) p) (completes_then (completes_eaten c.args.cursor.now c.eat.new.self c.eat.result (IsKind Arrow) (c.eat.ensures.complete (λ e. cc))) (completes_as_failed c.in_err-read_type.ensures.complete c.from_residual.ensures))

pub returns-clause-complete : goal.returns-clause-complete
returns-clause-complete c = completes_from (λ j p. returns_parts (source c.args.cursor.now) c.args.cursor.now.next j (c.eat.ensures.seen c.if-not-eat.false) p) (completes_then (completes_eaten c.args.cursor.now c.eat.new.self c.eat.result (IsKind Arrow) (c.eat.ensures.complete (λ e. cc))) (completes_with c.in_ok-read_type.ensures.complete))
