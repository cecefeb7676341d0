-- A `use` has no attributes.
use Rattle.wac_wit_syntax.proofs.Finishing.{completes_as_failed, completes_given, completes_there, completes_with}
use Rattle.wac_wit_syntax.proofs.TopLeft.{top_interface, top_none, top_use, top_world}
use Rattle.std.proofs.Common.{◌≡◌, true, false, codes, rules, sym, subst}
use Rattle.wac_wit_syntax.specs.Cursors.{source}
use Rattle.wac_wit_syntax.specs.Productions.{SaysWord}
use Rattle.wac_wit_syntax.specs.declared.cursor.Cursor.{Cursor}
use Rattle.wac_wit_syntax.proofs.Items.{no_gates_read, reads_at}
use Rattle.wac_wit_syntax.proofs.documents.read_item_after.Goals as goal

pub returns-in_ok-read_top_use-in-use-clause-read : goal.returns-in_ok-read_top_use-in-use-clause-read
returns-in_ok-read_top_use-in-use-clause-read c = λ before h.
    let says : SaysWord (source c.args.cursor.now) c.args.cursor.now.next (codes "use") = search rules in
    let none = c.in_ok-refuse_gates-in-use.ensures.none in
    let same = c.in_ok-refuse_gates-in-use.ensures.rest in
    c.in_ok-read_top_use-in-use.ensures.read before (reads_at same (no_gates_read before c.args.cursor.now c.args.gates none.0 none.1 none.2 h)) (subst (λ (x : Cursor). SaysWord (source x) x.next (codes "use")) (sym same) says)

pub returns-in_err-read_interface-in-interface-clause-complete : goal.returns-in_err-read_interface-in-interface-clause-complete
returns-in_err-read_interface-in-interface-clause-complete c =
    let says : SaysWord (source c.args.cursor.now) c.args.cursor.now.next (codes "interface") = search rules in
    completes_given (λ cut j p. top_interface c.args.gates (source c.args.cursor.now) c.args.cursor.now.next j says p) (completes_as_failed c.in_err-read_interface-in-interface.ensures.complete c.from_residual.ensures)

pub returns-in_ok-read_interface-in-interface-clause-complete : goal.returns-in_ok-read_interface-in-interface-clause-complete
returns-in_ok-read_interface-in-interface-clause-complete c =
    let says : SaysWord (source c.args.cursor.now) c.args.cursor.now.next (codes "interface") = search rules in
    completes_given (λ cut j p. top_interface c.args.gates (source c.args.cursor.now) c.args.cursor.now.next j says p) (completes_with c.in_ok-read_interface-in-interface.ensures.complete)

pub returns-in_err-read_world-in-world-clause-complete : goal.returns-in_err-read_world-in-world-clause-complete
returns-in_err-read_world-in-world-clause-complete c =
    let says : SaysWord (source c.args.cursor.now) c.args.cursor.now.next (codes "world") = search rules in
    completes_given (λ cut j p. top_world c.args.gates (source c.args.cursor.now) c.args.cursor.now.next j says p) (completes_as_failed c.in_err-read_world-in-world.ensures.complete c.from_residual-in_err-read_world-in-world.ensures)

pub returns-in_ok-read_world-in-world-clause-complete : goal.returns-in_ok-read_world-in-world-clause-complete
returns-in_ok-read_world-in-world-clause-complete c =
    let says : SaysWord (source c.args.cursor.now) c.args.cursor.now.next (codes "world") = search rules in
    completes_given (λ cut j p. top_world c.args.gates (source c.args.cursor.now) c.args.cursor.now.next j says p) (completes_with c.in_ok-read_world-in-world.ensures.complete)

pub returns-in_err-refuse_gates-in-use-clause-complete : goal.returns-in_err-refuse_gates-in-use-clause-complete
returns-in_err-refuse_gates-in-use-clause-complete c =
    let says : SaysWord (source c.args.cursor.now) c.args.cursor.now.next (codes "use") = search rules in
    record { ends = λ cut j p. absurd (let h = (top_use c.args.gates (source c.args.cursor.now) c.args.cursor.now.next j says p).0 in let e : false ≡ true = c.in_err-refuse_gates-in-use.ensures.complete h.0 h.1 h.2 in cc) }

pub returns-in_err-read_top_use-in-use-clause-complete : goal.returns-in_err-read_top_use-in-use-clause-complete
returns-in_err-read_top_use-in-use-clause-complete c =
    let says : SaysWord (source c.args.cursor.now) c.args.cursor.now.next (codes "use") = search rules in
    completes_given (λ cut j p. (top_use c.args.gates (source c.args.cursor.now) c.args.cursor.now.next j says p).1)
    (completes_there (sym c.in_ok-refuse_gates-in-use.ensures.rest) (completes_as_failed c.in_err-read_top_use-in-use.ensures.complete c.from_residual-in_err-read_top_use-in-use.ensures))

pub returns-in_ok-read_top_use-in-use-clause-complete : goal.returns-in_ok-read_top_use-in-use-clause-complete
returns-in_ok-read_top_use-in-use-clause-complete c =
    let says : SaysWord (source c.args.cursor.now) c.args.cursor.now.next (codes "use") = search rules in
    completes_given (λ cut j p. (top_use c.args.gates (source c.args.cursor.now) c.args.cursor.now.next j says p).1) (completes_there (sym c.in_ok-refuse_gates-in-use.ensures.rest) (completes_with c.in_ok-read_top_use-in-use.ensures.complete))

pub returns-in_default-clause-complete : goal.returns-in_default-clause-complete
returns-in_default-clause-complete c = record {
  ends = λ cut j p.
      absurd (top_none c.args.gates (source c.args.cursor.now) c.args.cursor.now.next j c.word.result.now (λ v says. c.word.ensures.complete v cut says) c.in_default.not-interface c.in_default.not-world c.in_default.not-use p);
}
