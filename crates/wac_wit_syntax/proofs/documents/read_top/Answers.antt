-- An item, or the word before a package's name.
use Rattle.wac_wit_syntax.proofs.Finishing.{comes_later, failed_memory, failed_ok}
use Rattle.wac_wit_syntax.proofs.FilesLeft.{item_here, package_next, step_memory}
use Rattle.std.proofs.Common.{◌≡◌, ◌∙◌, ap, true, false, codes, refl, rules, sym, subst}
use Rattle.wac_wit_syntax.specs.Behind.{PackageRest, ReadsAfter}
use Rattle.wac_wit_syntax.specs.Completing.{IsReadable}
use Rattle.wac_wit_syntax.specs.Cursors.{source}
use Rattle.wac_wit_syntax.specs.Documents.{IsDocument}
use Rattle.wac_wit_syntax.specs.Productions.{SaysWord}
use Rattle.wac_wit_syntax.specs.declared.cursor.Cursor.{Cursor}
use Rattle.wac_wit_syntax.specs.declared.tree.Document.{Document}
use Rattle.wac_wit_syntax.proofs.Ended.{on_ok_more}
use Rattle.wac_wit_syntax.proofs.Files.{item_put}
use Rattle.wac_wit_syntax.proofs.Items.{no_gates_read, reads_at, reads_on}
use Rattle.wac_wit_syntax.proofs.documents.read_top.Goals as goal

pub returns-then-eq-clause-read : goal.returns-then-eq-clause-read
returns-then-eq-clause-read c =
    let at = c.read_gates.new.cursor in
    let says : SaysWord (source at) at.next (codes "package") = search rules in
    let none = c.in_ok-refuse_gates.ensures.none in
    let same = c.in_ok-refuse_gates.ensures.rest in
    let nothing = no_gates_read c.args.cursor.now at c.in_ok-gates.gates none.0 none.1 none.2 c.in_ok-gates.ensures.read in
    on_ok_more c.read_package.result _ (ReadsAfter (IsDocument c.args.document.now) c.args.cursor.now c.read_package.new.cursor (IsDocument c.read_package.new.document)) c.read_package.ensures.read
    (λ f. λ before h. f before (reads_at same (reads_on h nothing)) (subst (λ (x : Cursor). SaysWord (source x) x.next (codes "package")) (sym same) says))

pub returns-clause-read : goal.returns-clause-read
returns-clause-read c = λ before h.
    let d = c.args.document.now in
    let e : Document = record d { items = c.push.new.self } in
    item_put before c.args.cursor.now c.read_item_after.new.cursor d e c.in_ok-item.item refl refl c.in_ok-push.ensures.items h (c.in_ok-item.ensures.read c.args.cursor.now c.in_ok-gates.ensures.read)

pub returns-in_err-gates-clause-complete : goal.returns-in_err-gates-clause-complete
returns-in_err-gates-clause-complete c = record {
  ends = λ cut j p.
      record {
        ok = failed_ok c.from_residual.result _ c.from_residual.ensures.0;
        memory = failed_memory c.from_residual.result _ c.from_residual.ensures (step_memory c.args.document.now c.args.cursor.now c.read_gates.new.cursor j cut p c.in_err-gates.ensures.complete);
      };
}

pub returns-in_err-refuse_gates-clause-complete : goal.returns-in_err-refuse_gates-clause-complete
returns-in_err-refuse_gates-clause-complete c =
    let says : SaysWord (source c.read_gates.new.cursor) c.read_gates.new.cursor.next (codes "package") = search rules in
    record { ends = λ cut j p. absurd (let h = (package_next c.args.document.now c.args.cursor.now c.read_gates.new.cursor c.in_ok-gates.gates j cut p c.in_ok-gates.ensures.complete c.in_ok-gates.ensures.none says).bare in let e : false ≡ true = c.in_err-refuse_gates.ensures.complete h.0 h.1 h.2 in cc) }

pub returns-then-eq-clause-complete : goal.returns-then-eq-clause-complete
returns-then-eq-clause-complete c =
    let says : SaysWord (source c.read_gates.new.cursor) c.read_gates.new.cursor.next (codes "package") = search rules in
    record {
      ends = λ cut j p.
          let h = package_next c.args.document.now c.args.cursor.now c.read_gates.new.cursor c.in_ok-gates.gates j cut p c.in_ok-gates.ensures.complete c.in_ok-gates.ensures.none says in
          let same = c.in_ok-refuse_gates.ensures.rest ∙ h.same in
          let there = subst IsReadable (sym (ap source same)) cut in
          let rest = subst (λ (x : Cursor). PackageRest c.args.document.now (source x) x.next j) (sym c.in_ok-refuse_gates.ensures.rest) h.rest in
          comes_later c.args.cursor.now c.refuse_gates.new.cursor c.read_package.new.cursor c.args.cursor.now.next j c.read_package.result same (c.read_package.ensures.complete.ends there j rest);
    }

pub returns-in_err-item-clause-complete : goal.returns-in_err-item-clause-complete
returns-in_err-item-clause-complete c = record {
  ends = λ cut j p.
      let h = item_here c.args.document.now c.args.cursor.now c.read_gates.new.cursor c.in_ok-gates.gates j c.word.result.now (codes "package") c.eq.result cut p c.in_ok-gates.ensures.complete c.in_ok-gates.ensures.none c.eq.ensures c.if-eq.false (c.word.ensures.complete (codes "package")) refl in
      let memory = (c.in_err-item.ensures.complete.ends (subst IsReadable (sym (ap source h.same)) cut) j h.rest).memory in
      record { ok = failed_ok c.from_residual-in_err-item.result _ c.from_residual-in_err-item.ensures.0; memory = failed_memory c.from_residual-in_err-item.result _ c.from_residual-in_err-item.ensures memory };
}

pub returns-clause-complete : goal.returns-clause-complete
returns-clause-complete c = record {
  ends = λ cut j p.
      let h = item_here c.args.document.now c.args.cursor.now c.read_gates.new.cursor c.in_ok-gates.gates j c.word.result.now (codes "package") c.eq.result cut p c.in_ok-gates.ensures.complete c.in_ok-gates.ensures.none c.eq.ensures c.if-eq.false (c.word.ensures.complete (codes "package")) refl in
      let end = c.in_ok-item.ensures.complete.ends (subst IsReadable (sym (ap source h.same)) cut) j h.rest in
      record { ok = end.ok ∙ ap (λ (x : Cursor). record x { next = j }) h.same; memory = tt };
}
