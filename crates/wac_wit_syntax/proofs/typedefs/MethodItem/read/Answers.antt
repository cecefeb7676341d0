-- The attributes, and a method of its kind.
use Rattle.std.proofs.Common.{codes, refl, rules}
use Rattle.wac_wit_syntax.specs.Cursors.{source}
use Rattle.wac_wit_syntax.specs.Productions.{SaysWord}
use Rattle.wac_wit_syntax.proofs.Finishing.{completes_failed, completes_given, completes_then, completes_weaker}
use Rattle.wac_wit_syntax.proofs.ItemsLeft.{constructor_rest, method_parts, named_rest, not_word}
use Rattle.wac_wit_syntax.proofs.typedefs.MethodItem.read.Goals as goal

pub returns-in_err-gates-clause-complete : goal.returns-in_err-gates-clause-complete
returns-in_err-gates-clause-complete c = completes_weaker method_parts (completes_failed c.in_err-gates.ensures.complete c.from_residual.ensures)

pub returns-then-eq-clause-complete : goal.returns-then-eq-clause-complete
returns-then-eq-clause-complete c =
    let at = c.read_gates.new.cursor in
    let says : SaysWord (source at) at.next (codes "constructor") = search rules in
    completes_weaker method_parts (completes_then c.in_ok-gates.ensures.complete (completes_given (λ cut j p. constructor_rest (source at) at.next j says p) c.read_constructor.ensures.complete))

pub returns-else-eq-clause-complete : goal.returns-else-eq-clause-complete
returns-else-eq-clause-complete c =
    let at = c.read_gates.new.cursor in
    completes_weaker method_parts (completes_then c.in_ok-gates.ensures.complete (completes_given (λ cut j p. named_rest (source at) at.next j (λ says. not_word (source at) at.next c.word.result.now (codes "constructor") c.eq.result c.eq.ensures c.if-eq.false (c.word.ensures.complete (codes "constructor") cut) refl says) p) c.read_named_method.ensures.complete))
