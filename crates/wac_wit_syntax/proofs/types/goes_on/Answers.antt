-- A separator behind the parts.
use Rattle.std.proofs.Common.{sym, subst}
use Rattle.wac_wit_syntax.specs.Cursors.{Reads}
use Rattle.wac_wit_syntax.specs.TypeParts.{Begun, Parted}
use Rattle.wac_wit_syntax.specs.declared.cursor.Cursor.{Cursor}
use Rattle.wac_wit_syntax.proofs.Covering.{reads_as, reads_then}
use Rattle.wac_wit_syntax.proofs.TypeSteps.{with_comma, with_end, with_tuple_end}
use Rattle.wac_wit_syntax.proofs.TypesGone.{ends_here, ends_somehow, ends_tuple, goes_further}
use Rattle.wac_wit_syntax.proofs.types.goes_on.Goals as goal

pub returns-then-ends_tuple-clause-read : goal.returns-then-ends_tuple-clause-read
returns-then-ends_tuple-clause-read c = λ before h.
    let p = c.args.parts.now in
    reads_as (reads_then h (reads_then (c.eats_comma.ensures.eaten c.if-eats_comma.true) (c.ends_tuple.ensures.eaten c.if-ends_tuple.true)))
    (λ s i j r. with_tuple_end c.args.word p.types.items p.lacks_first p.length s i j (c.ends_tuple.ensures.tuple c.if-ends_tuple.true) r)

pub returns-then-eats_comma-clause-read : goal.returns-then-eats_comma-clause-read
returns-then-eats_comma-clause-read c = λ before h.
    let p = c.args.parts.now in
    subst (λ (d : Cursor). Reads before d (Begun c.args.word p.types.items p.lacks_first p.length)) (sym (c.ends_tuple.ensures.left c.if-ends_tuple.false))
    (reads_as (reads_then h (c.eats_comma.ensures.eaten c.if-eats_comma.true)) (λ s i j r. with_comma c.args.word p.types.items p.lacks_first p.length s i j (c.eats_comma.ensures.may c.if-eats_comma.true) r))

pub returns-then-eats_end-clause-read : goal.returns-then-eats_end-clause-read
returns-then-eats_end-clause-read c = λ before h.
    let p = c.args.parts.now in
    reads_as (reads_then (subst (λ (d : Cursor). Reads before d (Parted c.args.word p.types.items p.lacks_first p.length)) (sym (c.eats_comma.ensures.left c.if-eats_comma.false)) h) (c.eats_end.ensures.eaten c.if-eats_end.true))
    (λ s i j r. with_end c.args.word p.types.items p.lacks_first p.length s i j (c.eats_end.ensures.may c.if-eats_end.true) r)

pub returns-then-ends_tuple-clause-complete : goal.returns-then-ends_tuple-clause-complete
returns-then-ends_tuple-clause-complete c =
    ends_tuple c.args.cursor.now c.eats_comma.new.cursor c.ends_tuple.new.cursor c.args.word c.args.parts.now c.eats_comma.result c.ends_tuple.result (c.eats_comma.ensures.seen c.if-eats_comma.true) (c.ends_tuple.ensures.seen c.if-ends_tuple.true)
    c.eats_comma.ensures.complete (c.eats_comma.ensures.may c.if-eats_comma.true) (c.ends_tuple.ensures.complete (c.ends_tuple.ensures.tuple c.if-ends_tuple.true)) (c.ends_tuple.ensures.tuple c.if-ends_tuple.true)

pub returns-then-eats_comma-clause-complete : goal.returns-then-eats_comma-clause-complete
returns-then-eats_comma-clause-complete c =
    goes_further c.args.cursor.now c.eats_comma.new.cursor c.ends_tuple.new.cursor c.args.word c.args.parts.now c.eats_comma.result c.ends_tuple.result (c.eats_comma.ensures.seen c.if-eats_comma.true) c.eats_comma.ensures.complete
    (c.eats_comma.ensures.may c.if-eats_comma.true) c.ends_tuple.ensures.complete c.if-ends_tuple.false (c.ends_tuple.ensures.left c.if-ends_tuple.false)

pub returns-then-eats_end-clause-complete : goal.returns-then-eats_end-clause-complete
returns-then-eats_end-clause-complete c =
    ends_here c.args.cursor.now c.eats_comma.new.cursor c.eats_end.new.cursor c.args.word c.args.parts.now c.eats_comma.result c.eats_end.result c.eats_comma.ensures.complete c.if-eats_comma.false (c.eats_comma.ensures.left c.if-eats_comma.false)
    c.eats_end.ensures.complete (c.eats_end.ensures.may c.if-eats_end.true)

pub returns-clause-complete : goal.returns-clause-complete
returns-clause-complete c = λ cut n j behind.
    absurd (ends_somehow c.args.cursor.now c.eats_comma.new.cursor c.eats_end.new.cursor c.args.word c.args.parts.now c.eats_comma.result c.eats_end.result c.eats_comma.ensures.complete c.if-eats_comma.false (c.eats_comma.ensures.left c.if-eats_comma.false)
    c.eats_end.ensures.complete c.if-eats_end.false cut n j behind)
