-- The words of a function, and the rest of it.
use Rattle.std.proofs.Common.{codes}
use Rattle.wac_wit_syntax.specs.Productions.{IsWord}
use Rattle.wac_wit_syntax.proofs.Finishing.{completes_eaten, completes_then, completes_uneaten, completes_weaker}
use Rattle.wac_wit_syntax.proofs.ItemsLeft.{completes_maybe, words_parts}
use Rattle.std.proofs.Common.{ap}
use Rattle.wac_wit_syntax.specs.declared.token.Token.{Token}
use Rattle.wac_wit_syntax.proofs.Signatures.{reads_async, signature_read}
use Rattle.wac_wit_syntax.proofs.functions.read_signature.Goals as goal

pub returns-clause-read : goal.returns-clause-read
returns-clause-read c =
    signature_read c.eat_word-is_async.result c.peek.result.span c.args.cursor.now c.eat_word-is_async.new.self c.eat_word.new.self c.signature_after.new.cursor c.signature_after.result
    (reads_async c.eat_word-is_async.result _ _ (c.eat_word-is_async.ensures.eaten (λ e. cc)) c.eat_word-is_async.ensures.left) (c.eat_word.ensures.eaten (λ e. cc) c.if-not-eat_word.false) (ap (λ (t : Token). t.span) c.peek.ensures)
    c.signature_after.ensures.read c.signature_after.ensures.kind

pub returns-then-not-eat_word-clause-complete : goal.returns-then-not-eat_word-clause-complete
returns-then-not-eat_word-clause-complete c = completes_weaker words_parts (completes_then (completes_maybe c.args.cursor.now c.eat_word-is_async.new.self c.eat_word-is_async.result (codes "async") c.eat_word-is_async.ensures.complete c.eat_word-is_async.ensures.left (c.eat_word-is_async.ensures.seen (λ e. cc))) (completes_uneaten c.eat_word-is_async.new.self c.eat_word.new.self c.eat_word.result (IsWord (codes "func")) c.eat_word.ensures.complete c.if-not-eat_word.true))

pub returns-clause-complete : goal.returns-clause-complete
returns-clause-complete c = completes_weaker words_parts (completes_then (completes_maybe c.args.cursor.now c.eat_word-is_async.new.self c.eat_word-is_async.result (codes "async") c.eat_word-is_async.ensures.complete c.eat_word-is_async.ensures.left (c.eat_word-is_async.ensures.seen (λ e. cc))) (completes_then (completes_eaten c.eat_word-is_async.new.self c.eat_word.new.self c.eat_word.result (IsWord (codes "func")) c.eat_word.ensures.complete) c.signature_after.ensures.complete))
