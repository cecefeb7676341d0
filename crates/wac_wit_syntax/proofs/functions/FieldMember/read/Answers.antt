-- A name, a colon and a type.
use Rattle.wac_wit_syntax.proofs.Finishing.{completes_as_failed, completes_failed, completes_then, completes_weaker, completes_with}
use Rattle.wac_wit_syntax.proofs.ItemsLeft.{field_parts}
use Rattle.wac_wit_syntax.specs.Cursors.{Reads}
use Rattle.wac_wit_syntax.specs.Productions.{◌▸◌, IsKind, IsName}
use Rattle.wac_wit_syntax.specs.Types.{IsTypeOf}
use Rattle.wac_wit_syntax.specs.declared.token.TokenKind.TheVariants.{Colon}
use Rattle.wac_wit_syntax.proofs.Covering.{reads_as, reads_spanning_from, reads_then}
use Rattle.wac_wit_syntax.proofs.functions.FieldMember.read.Goals as goal

pub returns-clause-read : goal.returns-clause-read
returns-clause-read c =
    let all : Reads c.args.cursor.now c.read_type.new.cursor (IsName c.in_ok-name.name ▸ IsKind Colon ▸ IsTypeOf c.in_ok-ty.ty) =
    reads_as (reads_then c.in_ok-name.ensures.read c.in_ok-ty.ensures.read) (λ s i j r. (r.1.0, r.1.1, (r.0, r.1.2, r.2))) in
    reads_spanning_from all c.in_ok-name.name.span c.last_span.result c.to-span.result (λ s i j r. r.1.1) c.last_span.ensures c.to-span.ensures

pub returns-in_err-name-clause-complete : goal.returns-in_err-name-clause-complete
returns-in_err-name-clause-complete c = completes_weaker field_parts (completes_failed c.in_err-name.ensures.complete c.from_residual.ensures)

pub returns-in_err-ty-clause-complete : goal.returns-in_err-ty-clause-complete
returns-in_err-ty-clause-complete c = completes_weaker field_parts (completes_then c.in_ok-name.ensures.complete (completes_as_failed c.in_err-ty.ensures.complete c.from_residual-in_err-ty.ensures))

pub returns-clause-complete : goal.returns-clause-complete
returns-clause-complete c = completes_weaker field_parts (completes_then c.in_ok-name.ensures.complete (completes_with c.in_ok-ty.ensures.complete))
