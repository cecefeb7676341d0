-- One attribute, by its name.
use Rattle.std.proofs.Common.{Ok, codes, rules}
use Rattle.wac_wit_syntax.specs.Cursors.{source}
use Rattle.wac_wit_syntax.specs.Productions.{SaysWord}
use Rattle.wac_wit_syntax.proofs.Finishing.{completes_as_failed, completes_with, failed_ok}
use Rattle.wac_wit_syntax.proofs.GatesLeft.{after_deprecated, after_since, after_unstable, no_next}
use Rattle.wac_wit_syntax.proofs.GateSteps.{one_deprecated, one_since, one_unstable}
use Rattle.wac_wit_syntax.proofs.gates.read_gate.Goals as goal

pub returns-in_ok-put_gate-in-since-clause-read : goal.returns-in_ok-put_gate-in-since-clause-read
returns-in_ok-put_gate-in-since-clause-read c = λ first at h a.
    let says : SaysWord (source c.args.cursor.now) c.args.cursor.now.next (codes "since") = search rules in
    one_since first at c.args.cursor.now c.put_gate.new.cursor _ _ _ _ c.in_ok-put_gate-in-since.ensures.none c.in_ok-put_gate-in-since.ensures.put says h a

pub returns-in_ok-put_gate-in-unstable-clause-read : goal.returns-in_ok-put_gate-in-unstable-clause-read
returns-in_ok-put_gate-in-unstable-clause-read c = λ first at h a.
    let says : SaysWord (source c.args.cursor.now) c.args.cursor.now.next (codes "unstable") = search rules in
    one_unstable first at c.args.cursor.now c.put_gate-in-unstable.new.cursor _ _ _ _ c.in_ok-put_gate-in-unstable.ensures.none c.in_ok-put_gate-in-unstable.ensures.put says h a

pub returns-in_ok-put_gate-in-deprecated-clause-read : goal.returns-in_ok-put_gate-in-deprecated-clause-read
returns-in_ok-put_gate-in-deprecated-clause-read c = λ first at h a.
    let says : SaysWord (source c.args.cursor.now) c.args.cursor.now.next (codes "deprecated") = search rules in
    one_deprecated first at c.args.cursor.now c.put_gate-in-deprecated.new.cursor _ _ _ _ c.in_ok-put_gate-in-deprecated.ensures.none c.in_ok-put_gate-in-deprecated.ensures.put says h a

pub returns-in_err-put_gate-in-since-clause-complete : goal.returns-in_err-put_gate-in-since-clause-complete
returns-in_err-put_gate-in-since-clause-complete c = λ only cut j next.
    let says : SaysWord (source c.args.cursor.now) c.args.cursor.now.next (codes "since") = search rules in
    let g = c.args.gates.now in
    after_since c.args.cursor.now c.put_gate.new.cursor g.since c.put_gate.new.gate g.unstable g.deprecated c.from_residual.result (λ none. completes_as_failed (c.in_err-put_gate-in-since.ensures.complete none) c.from_residual.ensures) (failed_ok c.from_residual.result _ c.from_residual.ensures.0) says cut j next

pub returns-in_ok-put_gate-in-since-clause-complete : goal.returns-in_ok-put_gate-in-since-clause-complete
returns-in_ok-put_gate-in-since-clause-complete c = λ only cut j next.
    let says : SaysWord (source c.args.cursor.now) c.args.cursor.now.next (codes "since") = search rules in
    let g = c.args.gates.now in
    after_since c.args.cursor.now c.put_gate.new.cursor g.since c.put_gate.new.gate g.unstable g.deprecated (Ok tt) (λ none. completes_with (c.in_ok-put_gate-in-since.ensures.complete none)) (c.in_ok-put_gate-in-since.ensures.put.0, c.in_ok-put_gate-in-since.ensures.put.1) says cut j next

pub returns-in_err-put_gate-in-unstable-clause-complete : goal.returns-in_err-put_gate-in-unstable-clause-complete
returns-in_err-put_gate-in-unstable-clause-complete c = λ only cut j next.
    let says : SaysWord (source c.args.cursor.now) c.args.cursor.now.next (codes "unstable") = search rules in
    let g = c.args.gates.now in
    after_unstable c.args.cursor.now c.put_gate-in-unstable.new.cursor g.since g.unstable c.put_gate-in-unstable.new.gate g.deprecated c.from_residual-in_err-put_gate-in-unstable.result (λ none. completes_as_failed (c.in_err-put_gate-in-unstable.ensures.complete none) c.from_residual-in_err-put_gate-in-unstable.ensures) (failed_ok c.from_residual-in_err-put_gate-in-unstable.result _ c.from_residual-in_err-put_gate-in-unstable.ensures.0) says cut j next

pub returns-in_ok-put_gate-in-unstable-clause-complete : goal.returns-in_ok-put_gate-in-unstable-clause-complete
returns-in_ok-put_gate-in-unstable-clause-complete c = λ only cut j next.
    let says : SaysWord (source c.args.cursor.now) c.args.cursor.now.next (codes "unstable") = search rules in
    let g = c.args.gates.now in
    after_unstable c.args.cursor.now c.put_gate-in-unstable.new.cursor g.since g.unstable c.put_gate-in-unstable.new.gate g.deprecated (Ok tt) (λ none. completes_with (c.in_ok-put_gate-in-unstable.ensures.complete none)) (c.in_ok-put_gate-in-unstable.ensures.put.0, c.in_ok-put_gate-in-unstable.ensures.put.1) says cut j next

pub returns-in_err-put_gate-in-deprecated-clause-complete : goal.returns-in_err-put_gate-in-deprecated-clause-complete
returns-in_err-put_gate-in-deprecated-clause-complete c = λ only cut j next.
    let says : SaysWord (source c.args.cursor.now) c.args.cursor.now.next (codes "deprecated") = search rules in
    let g = c.args.gates.now in
    after_deprecated c.args.cursor.now c.put_gate-in-deprecated.new.cursor g.since g.unstable g.deprecated c.put_gate-in-deprecated.new.gate c.from_residual-in_err-put_gate-in-deprecated.result (λ none. completes_as_failed (c.in_err-put_gate-in-deprecated.ensures.complete none) c.from_residual-in_err-put_gate-in-deprecated.ensures) (failed_ok c.from_residual-in_err-put_gate-in-deprecated.result _ c.from_residual-in_err-put_gate-in-deprecated.ensures.0) says only cut j next

pub returns-in_ok-put_gate-in-deprecated-clause-complete : goal.returns-in_ok-put_gate-in-deprecated-clause-complete
returns-in_ok-put_gate-in-deprecated-clause-complete c = λ only cut j next.
    let says : SaysWord (source c.args.cursor.now) c.args.cursor.now.next (codes "deprecated") = search rules in
    let g = c.args.gates.now in
    after_deprecated c.args.cursor.now c.put_gate-in-deprecated.new.cursor g.since g.unstable g.deprecated c.put_gate-in-deprecated.new.gate (Ok tt) (λ none. completes_with (c.in_ok-put_gate-in-deprecated.ensures.complete none)) (c.in_ok-put_gate-in-deprecated.ensures.put.0, c.in_ok-put_gate-in-deprecated.ensures.put.1) says only cut j next

pub returns-in_default-clause-complete : goal.returns-in_default-clause-complete
returns-in_default-clause-complete c = λ only cut j next.
    absurd (no_next (source c.args.cursor.now) c.args.cursor.now.next c.word.result.now _ _ _ j (λ v says. c.word.ensures.complete v cut says) c.in_default.not-since c.in_default.not-unstable c.in_default.not-deprecated next)
