-- The attributes, and what stands behind them.
use Rattle.std.proofs.Common.{sym, subst, ap, ◌∙◌}
use Rattle.wac_wit_syntax.specs.Completing.{IsReadable}
use Rattle.wac_wit_syntax.specs.Cursors.{source}
use Rattle.wac_wit_syntax.specs.Behind.{TopRest}
use Rattle.wac_wit_syntax.specs.declared.cursor.Cursor.{Cursor}
use Rattle.wac_wit_syntax.proofs.Finishing.{comes_later, failed_memory, failed_ok}
use Rattle.wac_wit_syntax.proofs.TopLeft.{gates_memory, rest_read, top_no_package}
use Rattle.wac_wit_syntax.proofs.documents.TopItemItem.read.Goals as goal

pub returns-in_err-gates-clause-complete : goal.returns-in_err-gates-clause-complete
returns-in_err-gates-clause-complete c = record {
  ends = λ cut j p.
      record {
        ok = failed_ok c.from_residual.result _ c.from_residual.ensures.0;
        memory = failed_memory c.from_residual.result _ c.from_residual.ensures (gates_memory c.args.cursor.now c.read_gates.new.cursor j cut p c.in_err-gates.ensures.complete);
      };
}

pub returns-then-eat_word-clause-complete : goal.returns-then-eat_word-clause-complete
returns-then-eat_word-clause-complete c = record {
  ends = λ cut j p.
      let h = rest_read c.args.cursor.now c.read_gates.new.cursor c.in_ok-gates.gates j cut p c.in_ok-gates.ensures.complete c.in_ok-gates.ensures.none in
      let at = c.read_gates.new.cursor in
      absurd (top_no_package c.in_ok-gates.gates (source at) at.next j (c.eat_word.ensures.seen (λ e. cc) c.if-eat_word.true) h.rest);
}

pub returns-clause-complete : goal.returns-clause-complete
returns-clause-complete c = record {
  ends = λ cut j p.
      let h = rest_read c.args.cursor.now c.read_gates.new.cursor c.in_ok-gates.gates j cut p c.in_ok-gates.ensures.complete c.in_ok-gates.ensures.none in
      let same = c.eat_word.ensures.left c.if-eat_word.false in
      let there = subst (λ (x : Cursor). IsReadable (source x)) (sym same) (subst IsReadable (sym (ap source h.same)) cut) in
      let rest = subst (λ (x : Cursor). TopRest c.in_ok-gates.gates (source x) x.next j) (sym same) h.rest in
      let end = c.read_item_after.ensures.complete.ends there j rest in
      comes_later c.args.cursor.now c.eat_word.new.self c.read_item_after.new.cursor h.place j c.read_item_after.result (same ∙ h.same) end;
}
