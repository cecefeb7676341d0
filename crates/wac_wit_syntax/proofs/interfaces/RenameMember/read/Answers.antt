-- A name, and the one that it gets.
use Rattle.wac_wit_syntax.proofs.Finishing.{completes_as_failed, completes_failed, completes_then, completes_weaker, completes_with}
use Rattle.wac_wit_syntax.proofs.ItemsLeft.{is_none}
use Rattle.wac_wit_syntax.proofs.WorldsLeft.{alias_missing, rename_parts}
use Rattle.wac_wit_syntax.proofs.interfaces.RenameMember.read.Goals as goal

pub returns-in_err-name-clause-complete : goal.returns-in_err-name-clause-complete
returns-in_err-name-clause-complete c = completes_weaker (rename_parts c.args.form.needs_alias) (completes_failed c.in_err-name.ensures.complete c.from_residual.ensures)

pub returns-in_err-alias-clause-complete : goal.returns-in_err-alias-clause-complete
returns-in_err-alias-clause-complete c = completes_weaker (rename_parts c.args.form.needs_alias) (completes_then c.in_ok-name.ensures.complete (completes_as_failed c.in_err-alias.ensures.complete c.from_residual-in_err-alias.ensures))

pub returns-clause-complete : goal.returns-clause-complete
returns-clause-complete c = completes_weaker (rename_parts c.args.form.needs_alias) (completes_then c.in_ok-name.ensures.complete (completes_with c.in_ok-alias.ensures.complete))

pub returns-then-is_none-clause-complete : goal.returns-then-is_none-clause-complete
returns-then-is_none-clause-complete c = record {
  ends = λ cut j p.
      absurd (alias_missing c.args.cursor.now c.ident.new.self c.read_alias.new.cursor c.args.form.needs_alias j cut c.if-form.true p c.in_ok-name.ensures.complete c.in_ok-alias.ensures.complete
      (c.in_ok-alias.ensures.none (is_none c.in_ok-alias.alias c.if-is_none.ensures)));
}
