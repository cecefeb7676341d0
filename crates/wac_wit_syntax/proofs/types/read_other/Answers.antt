-- A part that is no type, or none.
use Rattle.std.proofs.Common.{sym, refl, ◌∙◌}
use Rattle.wac_wit_syntax.proofs.Finishing.{completes_there}
use Rattle.wac_wit_syntax.proofs.TypesGone.{lack_taken, length_failed, length_taken, type_comes}
use Rattle.wac_wit_syntax.proofs.types.read_other.Goals as goal

pub returns-then-eats_lack-clause-complete : goal.returns-then-eats_lack-clause-complete
returns-then-eats_lack-clause-complete c =
    let may = c.eats_lack.ensures.may c.if-eats_lack.true in
    lack_taken c.args.cursor.now c.eats_lack.new.cursor c.args.word c.args.parts.now _ c.eats_lack.result may.0 (c.eats_lack.ensures.seen c.if-eats_lack.true) (c.eats_lack.ensures.complete may.0 may.1) refl

pub returns-in_err-read_length-clause-complete : goal.returns-in_err-read_length-clause-complete
returns-in_err-read_length-clause-complete c =
    length_failed c.args.cursor.now c.read_length.new.cursor c.read_length.new.cursor c.args.word c.args.parts.now c.args.parts.now c.from_residual.result (sym c.takes_type.ensures ∙ c.if-not-takes_type.true)
    (completes_there (sym (c.eats_lack.ensures.left c.if-eats_lack.false)) c.in_err-read_length.ensures.complete) c.from_residual.ensures

pub returns-then-not-takes_type-clause-complete : goal.returns-then-not-takes_type-clause-complete
returns-then-not-takes_type-clause-complete c =
    length_taken c.args.cursor.now c.read_length.new.cursor c.args.word c.args.parts.now _ c.in_ok-read_length.field-0 (sym c.takes_type.ensures ∙ c.if-not-takes_type.true)
    (completes_there (sym (c.eats_lack.ensures.left c.if-eats_lack.false)) c.in_ok-read_length.ensures.complete) refl

pub returns-clause-complete : goal.returns-clause-complete
returns-clause-complete c =
    type_comes c.args.cursor.now c.eats_lack.new.cursor c.eats_lack.new.cursor c.args.word c.args.parts.now c.args.parts.now c.eats_lack.result (sym c.takes_type.ensures ∙ c.if-not-takes_type.false) c.eats_lack.ensures.complete c.if-eats_lack.false
    (c.eats_lack.ensures.left c.if-eats_lack.false)
