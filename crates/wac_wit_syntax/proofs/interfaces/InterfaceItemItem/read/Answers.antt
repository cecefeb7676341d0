-- The attributes, and an item of its kind.
use Rattle.wac_wit_syntax.proofs.ItemsLeft.{none_some, not_word}
use Rattle.std.proofs.Common.{IsNone, codes, refl, rules}
use Rattle.wac_wit_syntax.specs.Cursors.{source}
use Rattle.wac_wit_syntax.specs.Productions.{SaysWord}
use Rattle.wac_wit_syntax.proofs.Finishing.{completes_as_failed, completes_failed, completes_given, completes_then, completes_weaker, completes_with}
use Rattle.wac_wit_syntax.proofs.WorldsLeft.{func_rest, item_parts, typedef_rest, use_rest}
use Rattle.wac_wit_syntax.proofs.interfaces.InterfaceItemItem.read.Goals as goal

pub returns-in_err-gates-clause-complete : goal.returns-in_err-gates-clause-complete
returns-in_err-gates-clause-complete c = completes_weaker item_parts (completes_failed c.in_err-gates.ensures.complete c.from_residual.ensures)

pub returns-in_err-read_typedef-clause-complete : goal.returns-in_err-read_typedef-clause-complete
returns-in_err-read_typedef-clause-complete c =
    let at = c.read_gates.new.cursor in
    completes_weaker item_parts (completes_then c.in_ok-gates.ensures.complete (completes_given (λ cut j p. typedef_rest c.in-Some.word (source at) at.next j c.in-Some.ensures.word (c.in-Some.ensures.name refl) p) (completes_as_failed c.in_err-read_typedef.ensures.complete c.from_residual-in_err-read_typedef.ensures)))

pub returns-in-Some-clause-complete : goal.returns-in-Some-clause-complete
returns-in-Some-clause-complete c =
    let at = c.read_gates.new.cursor in
    completes_weaker item_parts (completes_then c.in_ok-gates.ensures.complete (completes_given (λ cut j p. typedef_rest c.in-Some.word (source at) at.next j c.in-Some.ensures.word (c.in-Some.ensures.name refl) p) (completes_with c.in_ok-read_typedef.ensures.complete)))

pub returns-in_err-read_use-clause-complete : goal.returns-in_err-read_use-clause-complete
returns-in_err-read_use-clause-complete c =
    let at = c.read_gates.new.cursor in
    let says : SaysWord (source at) at.next (codes "use") = search rules in
    completes_weaker item_parts (completes_then c.in_ok-gates.ensures.complete (completes_given (λ cut j p. use_rest (source at) at.next j says p) (completes_as_failed c.in_err-read_use.ensures.complete c.from_residual-in_err-read_use.ensures)))

pub returns-then-eq-clause-complete : goal.returns-then-eq-clause-complete
returns-then-eq-clause-complete c =
    let at = c.read_gates.new.cursor in
    let says : SaysWord (source at) at.next (codes "use") = search rules in
    completes_weaker item_parts (completes_then c.in_ok-gates.ensures.complete (completes_given (λ cut j p. use_rest (source at) at.next j says p) (completes_with c.in_ok-read_use.ensures.complete)))

pub returns-in_err-read_func-clause-complete : goal.returns-in_err-read_func-clause-complete
returns-in_err-read_func-clause-complete c =
    let at = c.read_gates.new.cursor in
    let none : IsNone c.def_word.result = search rules in
    completes_weaker item_parts (completes_then c.in_ok-gates.ensures.complete (completes_given (λ cut j p. func_rest (source at) at.next j (λ w says second. none_some c.def_word.result none (c.def_word.ensures.complete w cut says second)) (λ says. not_word (source at) at.next c.word.result.now (codes "use") c.eq.result c.eq.ensures c.if-eq.false (c.word.ensures.complete (codes "use") cut) refl says) p) (completes_as_failed c.in_err-read_func.ensures.complete c.from_residual-in_err-read_func.ensures)))

pub returns-clause-complete : goal.returns-clause-complete
returns-clause-complete c =
    let at = c.read_gates.new.cursor in
    let none : IsNone c.def_word.result = search rules in
    completes_weaker item_parts (completes_then c.in_ok-gates.ensures.complete (completes_given (λ cut j p. func_rest (source at) at.next j (λ w says second. none_some c.def_word.result none (c.def_word.ensures.complete w cut says second)) (λ says. not_word (source at) at.next c.word.result.now (codes "use") c.eq.result c.eq.ensures c.if-eq.false (c.word.ensures.complete (codes "use") cut) refl says) p) (completes_with c.in_ok-read_func.ensures.complete)))
