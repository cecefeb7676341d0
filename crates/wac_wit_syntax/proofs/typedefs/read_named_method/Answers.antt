-- The name, the word that may stand behind it, and the function.
use Rattle.std.proofs.Common.{codes}
use Rattle.wac_wit_syntax.proofs.Finishing.{completes_as_failed, completes_failed, completes_then, completes_weaker, completes_with}
use Rattle.wac_wit_syntax.proofs.ItemsLeft.{completes_maybe, named_parts}
use Rattle.wac_wit_syntax.proofs.typedefs.read_named_method.Goals as goal

pub returns-in_err-name-clause-complete : goal.returns-in_err-name-clause-complete
returns-in_err-name-clause-complete c = completes_weaker named_parts (completes_failed c.in_err-name.ensures.complete c.from_residual.ensures)

pub returns-in_err-signature-clause-complete : goal.returns-in_err-signature-clause-complete
returns-in_err-signature-clause-complete c = completes_weaker named_parts (completes_then c.in_ok-name.ensures.complete (completes_then (completes_maybe c.label.new.self c.eat_word.new.self c.eat_word.result (codes "static") c.eat_word.ensures.complete c.eat_word.ensures.left (c.eat_word.ensures.seen (λ e. cc))) (completes_as_failed c.in_err-signature.ensures.complete c.from_residual-in_err-signature.ensures)))

pub returns-clause-complete : goal.returns-clause-complete
returns-clause-complete c = completes_weaker named_parts (completes_then c.in_ok-name.ensures.complete (completes_then (completes_maybe c.label.new.self c.eat_word.new.self c.eat_word.result (codes "static") c.eat_word.ensures.complete c.eat_word.ensures.left (c.eat_word.ensures.seen (λ e. cc))) (completes_with c.in_ok-signature.ensures.complete)))
