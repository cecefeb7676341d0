-- The type between parentheses, or none.
use Rattle.wac_wit_syntax.specs.Cursors.{source}
use Rattle.wac_wit_syntax.specs.Productions.{IsKind}
use Rattle.wac_wit_syntax.specs.declared.token.TokenKind.TheVariants.{OpenParen}
use Rattle.wac_wit_syntax.proofs.Finishing.{completes_eaten, completes_failed, completes_from, completes_then}
use Rattle.wac_wit_syntax.proofs.ItemsLeft.{PayloadTokens, no_payload, payload_parts}
use Rattle.wac_wit_syntax.proofs.typedefs.read_payload.Goals as goal

pub returns-then-not-eat-clause-complete : goal.returns-then-not-eat-clause-complete
returns-then-not-eat-clause-complete c = no_payload c.args.cursor.now c.eat.new.self c.eat.result (c.eat.ensures.complete (λ e. cc)) c.if-not-eat.true (c.eat.ensures.left c.if-not-eat.true)

pub returns-in_err-ty-clause-complete : goal.returns-in_err-ty-clause-complete
returns-in_err-ty-clause-complete c = completes_from {P = PayloadTokens} (λ j p. payload_parts (source c.args.cursor.now) c.args.cursor.now.next j (c.eat.ensures.seen c.if-not-eat.false) p) (completes_then (completes_eaten c.args.cursor.now c.eat.new.self c.eat.result (IsKind OpenParen) (c.eat.ensures.complete (λ e. cc))) (completes_failed c.in_err-ty.ensures.complete c.from_residual.ensures))

pub returns-clause-complete : goal.returns-clause-complete
returns-clause-complete c = completes_from {P = PayloadTokens} (λ j p. payload_parts (source c.args.cursor.now) c.args.cursor.now.next j (c.eat.ensures.seen c.if-not-eat.false) p) (completes_then (completes_eaten c.args.cursor.now c.eat.new.self c.eat.result (IsKind OpenParen) (c.eat.ensures.complete (λ e. cc))) (completes_then c.in_ok-ty.ensures.complete (c.before-2.ensures.complete (λ e. cc))))
