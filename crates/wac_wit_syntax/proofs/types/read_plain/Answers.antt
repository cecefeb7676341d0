-- A word, or a handle.
use Rattle.std.proofs.Common.{◌≡◌, true, false, codes, rules, sym, ◌∙◌}
use Rattle.wac_model.specs.Desc.{primitive_desc}
use Rattle.wac_wit_syntax.specs.declared.token.TokenKind.TheVariants.{Word}
use Rattle.wac_wit_syntax.specs.Cursors.{source}
use Rattle.wac_wit_syntax.specs.Productions.{SaysWord}
use Rattle.wac_wit_syntax.specs.Types.{borrow, name, own}
use Rattle.wac_wit_syntax.proofs.Covering.{reads_as}
use Rattle.wac_wit_syntax.proofs.TypesMade.{reads_primitive, says_primitive}
use Rattle.wac_wit_syntax.proofs.Finishing.{completes_as_failed, completes_from, completes_given, completes_take, completes_with}
use Rattle.wac_wit_syntax.proofs.PlainTypes.{borrow_handle, name_next, own_handle, primitive_next}
use Rattle.wac_wit_syntax.proofs.TypesGone.{keeps_key, key_word}
use Rattle.wac_wit_syntax.proofs.types.read_plain.Goals as goal

pub returns-in_ok-read_resource-in-own-clause-read : goal.returns-in_ok-read_resource-in-own-clause-read
returns-in_ok-read_resource-in-own-clause-read c =
    let says : SaysWord (source c.args.cursor.now) c.args.cursor.now.next (codes "own") = search rules in
    reads_as (c.in_ok-read_resource-in-own.ensures.read (codes "own") says) (λ s i j r. own (r.0, r.1, r.2.1) r.2.2.1 r.2.2.2)

pub returns-in_ok-read_resource-in-borrow-clause-read : goal.returns-in_ok-read_resource-in-borrow-clause-read
returns-in_ok-read_resource-in-borrow-clause-read c =
    let says : SaysWord (source c.args.cursor.now) c.args.cursor.now.next (codes "borrow") = search rules in
    reads_as (c.in_ok-read_resource-in-borrow.ensures.read (codes "borrow") says) (λ s i j r. borrow (r.0, r.1, r.2.1) r.2.2.1 r.2.2.2)

pub returns-in-Some-clause-read : goal.returns-in-Some-clause-read
returns-in-Some-clause-read c = reads_primitive c.args.cursor.now c.take.new.self c.take.result c.in-Some.primitive c.word.result.now c.in-Some.ensures.primitive c.word.ensures.word c.take.ensures.token c.take.ensures.rest c.take.ensures.next

pub returns-in_ok-ident-in-None-clause-read : goal.returns-in_ok-ident-in-None-clause-read
returns-in_ok-ident-in-None-clause-read c = reads_as c.in_ok-ident-in-None.ensures.read (λ s i j r. name r)

pub returns-in_err-read_resource-in-own-clause-complete : goal.returns-in_err-read_resource-in-own-clause-complete
returns-in_err-read_resource-in-own-clause-complete c = completes_from (let says : SaysWord (source c.args.cursor.now) c.args.cursor.now.next (codes "own") = search rules in λ j p. own_handle (source c.args.cursor.now) c.args.cursor.now.next j p.0.0 says p.0.1) (completes_as_failed c.in_err-read_resource-in-own.ensures.complete c.from_residual.ensures)

pub returns-in_ok-read_resource-in-own-clause-complete : goal.returns-in_ok-read_resource-in-own-clause-complete
returns-in_ok-read_resource-in-own-clause-complete c = completes_from (let says : SaysWord (source c.args.cursor.now) c.args.cursor.now.next (codes "own") = search rules in λ j p. own_handle (source c.args.cursor.now) c.args.cursor.now.next j p.0.0 says p.0.1) (completes_with c.in_ok-read_resource-in-own.ensures.complete)

pub returns-in_err-read_resource-in-borrow-clause-complete : goal.returns-in_err-read_resource-in-borrow-clause-complete
returns-in_err-read_resource-in-borrow-clause-complete c = completes_from (let says : SaysWord (source c.args.cursor.now) c.args.cursor.now.next (codes "borrow") = search rules in λ j p. borrow_handle (source c.args.cursor.now) c.args.cursor.now.next j p.0.0 says p.0.1) (completes_as_failed c.in_err-read_resource-in-borrow.ensures.complete c.from_residual-in_err-read_resource-in-borrow.ensures)

pub returns-in_ok-read_resource-in-borrow-clause-complete : goal.returns-in_ok-read_resource-in-borrow-clause-complete
returns-in_ok-read_resource-in-borrow-clause-complete c = completes_from (let says : SaysWord (source c.args.cursor.now) c.args.cursor.now.next (codes "borrow") = search rules in λ j p. borrow_handle (source c.args.cursor.now) c.args.cursor.now.next j p.0.0 says p.0.1) (completes_with c.in_ok-read_resource-in-borrow.ensures.complete)

pub returns-in-Some-clause-complete : goal.returns-in-Some-clause-complete
returns-in-Some-clause-complete c =
    let says = says_primitive (source c.args.cursor.now) c.args.cursor.now.next c.word.result.now c.in-Some.primitive c.in-Some.ensures.primitive c.word.ensures.word in
    completes_from (λ j p. (says.0, primitive_next (source c.args.cursor.now) c.args.cursor.now.next j p.0.0 c.in-Some.primitive says p.1 p.0.1))
    (completes_with (completes_take c.args.cursor.now c.take.new.self Word c.take.result (λ e. cc) c.take.ensures.token c.take.ensures.rest c.take.ensures.next))

pub returns-in_err-ident-in-None-clause-complete : goal.returns-in_err-ident-in-None-clause-complete
returns-in_err-ident-in-None-clause-complete c = completes_given (λ cut j p. name_next (source c.args.cursor.now) c.args.cursor.now.next j p.0.0 (λ q says. absurd (let e : false ≡ true = c.in-None.ensures.complete q (c.word.ensures.complete (primitive_desc q) cut says) in cc))
    (λ says. c.in_default.not-own (c.word.ensures.complete (codes "own") cut says)) (λ says. c.in_default.not-borrow (c.word.ensures.complete (codes "borrow") cut says)) p.1 p.0.1)
    (completes_as_failed c.in_err-ident-in-None.ensures.complete c.from_residual-in_err-ident-in-None.ensures)

pub returns-in_ok-ident-in-None-clause-complete : goal.returns-in_ok-ident-in-None-clause-complete
returns-in_ok-ident-in-None-clause-complete c = completes_given (λ cut j p. name_next (source c.args.cursor.now) c.args.cursor.now.next j p.0.0 (λ q says. absurd (let e : false ≡ true = c.in-None.ensures.complete q (c.word.ensures.complete (primitive_desc q) cut says) in cc))
    (λ says. c.in_default.not-own (c.word.ensures.complete (codes "own") cut says)) (λ says. c.in_default.not-borrow (c.word.ensures.complete (codes "borrow") cut says)) p.1 p.0.1)
    (completes_with c.in_ok-ident-in-None.ensures.complete)

pub returns-in-Some-clause-key : goal.returns-in-Some-clause-key
returns-in-Some-clause-key c = λ cut t k h key.
    let says = key_word (source c.args.cursor.now) t c.args.cursor.now.next k h key in
    keeps_key c.in-Some.primitive key.0 c.take.result.span (sym c.in-Some.ensures.primitive ∙ c.word.ensures.complete (primitive_desc key.0) cut says) key.3

pub returns-in_ok-ident-in-None-clause-key : goal.returns-in_ok-ident-in-None-clause-key
returns-in_ok-ident-in-None-clause-key c = λ cut t k h key.
    let says = key_word (source c.args.cursor.now) t c.args.cursor.now.next k h key in
    absurd (let e : false ≡ true = c.in-None.ensures.complete key.0 (c.word.ensures.complete (primitive_desc key.0) cut says) in cc)
