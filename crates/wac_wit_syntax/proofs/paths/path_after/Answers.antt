-- A path that names its package, piece by piece.
use Rattle.wac_wit_syntax.specs.Cursors.{source}
use Rattle.wac_wit_syntax.specs.Productions.{IsKind}
use Rattle.wac_wit_syntax.specs.declared.token.TokenKind.TheVariants.{Colon}
use Rattle.wac_wit_syntax.proofs.Covering.{reads_as, reads_spanning_from, reads_then, span_of_names}
use Rattle.wac_wit_syntax.proofs.Finishing.{completes_as_failed, completes_eaten, completes_failed, completes_from, completes_then, completes_with}
use Rattle.wac_wit_syntax.proofs.PathSteps.{AfterFirst, rest_parts}
use Rattle.wac_wit_syntax.proofs.paths.path_after.Goals as goal

pub returns-clause-read : goal.returns-clause-read
returns-clause-read c = λ before h.
    let names = reads_then h (reads_then (c.eat.ensures.eaten c.if-not-eat.false) c.in_ok-package_name.ensures.read) in
    let pair = reads_as names (span_of_names c.args.first c.in_ok-package_name.package_name Colon c.to.result c.to.ensures) in
    let all = reads_then pair (reads_then c.in_ok-expect.ensures.read (reads_then c.in_ok-name.ensures.read c.in_ok-version.ensures.read)) in
    reads_spanning_from all c.args.first.span c.last_span.result c.to-span.result (λ s i j r. r.1.0.1.1) c.last_span.ensures c.to-span.ensures

pub returns-in_err-package_name-clause-complete : goal.returns-in_err-package_name-clause-complete
returns-in_err-package_name-clause-complete c =
    completes_from {P = AfterFirst} (λ j p. rest_parts (source c.args.cursor.now) c.args.cursor.now.next j (c.eat.ensures.seen c.if-not-eat.false) p)
    (completes_then (completes_eaten c.args.cursor.now c.eat.new.self c.eat.result (IsKind Colon) (c.eat.ensures.complete (λ e. cc)))
    (completes_failed c.in_err-package_name.ensures.complete c.from_residual.ensures))

pub returns-in_err-expect-clause-complete : goal.returns-in_err-expect-clause-complete
returns-in_err-expect-clause-complete c =
    completes_from {P = AfterFirst} (λ j p. rest_parts (source c.args.cursor.now) c.args.cursor.now.next j (c.eat.ensures.seen c.if-not-eat.false) p)
    (completes_then (completes_eaten c.args.cursor.now c.eat.new.self c.eat.result (IsKind Colon) (c.eat.ensures.complete (λ e. cc)))
    (completes_then c.in_ok-package_name.ensures.complete (completes_failed (c.in_err-expect.ensures.complete (λ e. cc)) c.from_residual-in_err-expect.ensures)))

pub returns-in_err-name-clause-complete : goal.returns-in_err-name-clause-complete
returns-in_err-name-clause-complete c =
    completes_from {P = AfterFirst} (λ j p. rest_parts (source c.args.cursor.now) c.args.cursor.now.next j (c.eat.ensures.seen c.if-not-eat.false) p)
    (completes_then (completes_eaten c.args.cursor.now c.eat.new.self c.eat.result (IsKind Colon) (c.eat.ensures.complete (λ e. cc)))
    (completes_then c.in_ok-package_name.ensures.complete (completes_then (c.in_ok-expect.ensures.complete (λ e. cc)) (completes_failed c.in_err-name.ensures.complete c.from_residual-in_err-name.ensures))))

pub returns-in_err-version-clause-complete : goal.returns-in_err-version-clause-complete
returns-in_err-version-clause-complete c =
    completes_from {P = AfterFirst} (λ j p. rest_parts (source c.args.cursor.now) c.args.cursor.now.next j (c.eat.ensures.seen c.if-not-eat.false) p)
    (completes_then (completes_eaten c.args.cursor.now c.eat.new.self c.eat.result (IsKind Colon) (c.eat.ensures.complete (λ e. cc)))
    (completes_then c.in_ok-package_name.ensures.complete (completes_then (c.in_ok-expect.ensures.complete (λ e. cc)) (completes_then c.in_ok-name.ensures.complete (completes_as_failed c.in_err-version.ensures.complete c.from_residual-in_err-version.ensures)))))

pub returns-clause-complete : goal.returns-clause-complete
returns-clause-complete c =
    completes_from {P = AfterFirst} (λ j p. rest_parts (source c.args.cursor.now) c.args.cursor.now.next j (c.eat.ensures.seen c.if-not-eat.false) p)
    (completes_then (completes_eaten c.args.cursor.now c.eat.new.self c.eat.result (IsKind Colon) (c.eat.ensures.complete (λ e. cc)))
    (completes_then c.in_ok-package_name.ensures.complete (completes_then (c.in_ok-expect.ensures.complete (λ e. cc)) (completes_then c.in_ok-name.ensures.complete (completes_with c.in_ok-version.ensures.complete)))))
