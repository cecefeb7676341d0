-- One part after the other.
use Rattle.wac_wit_syntax.proofs.Finishing.{failed_memory, failed_ok}
use Rattle.wac_wit_syntax.proofs.FilesLeft.{doc_ends, doc_further, doc_memory, doc_start, not_end}
use Rattle.std.proofs.Common.{◌≡◌, ◌∙◌, true, false, refl, subst, arith}
use Rattle.wac_wit_syntax.specs.Cursors.{HasNoRefusal}
use Rattle.wac_wit_syntax.proofs.Covering.{reads_refused}
use Rattle.wac_wit_syntax.proofs.Files.{no_part}
use Rattle.wac_wit_syntax.proofs.Items.{reads_at}
use Rattle.wac_wit_syntax.proofs.documents.read_document.Goals as goal
use Rattle.wac_wit_syntax.proofs.documents.read_document.Goals.{in-Err+in_ok-recover, in_default}

pub loop-turn-init : goal.loop-turn-init
loop-turn-init c = record {
  reads = no_part c.args.cursor.now c.new.result.items c.new-2.result.items c.new.ensures.items c.new-2.ensures.items;
  whole = λ cut j p. doc_start c.args.cursor.now _ j (refl, c.new.ensures.len, c.new-2.ensures.len) p.0;
}

pub loop-turn-preserved : goal.loop-turn-preserved
loop-turn-preserved c = record {
  reads =
      elim c.match-read_top.branch [
        | in-Err+in_ok-recover w ↦ reads_refused _ c.match-read_top.cursor _ (λ q. (let n = w.in_ok-recover.ensures.refused in let e = subst HasNoRefusal w.cursor-is q in omega arith))
        | in_default w ↦ reads_at w.cursor-is (w.in_default.ensures.read c.args.cursor.now c.loop-turn.invariant.reads)
      ];
  whole = λ cut j p.
      let h = c.loop-turn.invariant.whole cut j p in
      let other = not_end c.loop-turn.cursor c.sees.result c.sees.ensures.complete c.if-sees.false in
      elim c.match-read_top.branch [
        | in-Err+in_ok-recover w ↦ absurd (let e : false ≡ true = w.in_ok-recover.ensures.memory (doc_memory c.args.cursor.now c.loop-turn.cursor c.read_top.new.cursor c.loop-turn.document c.loop-turn._turn j cut p.1 h other w.in-Err.ensures.complete) in cc)
        | in_default w ↦ doc_further c.args.cursor.now c.loop-turn.cursor c.read_top.new.cursor c.match-read_top.cursor c.loop-turn.document _ c.loop-turn._turn j cut p.1 h other w.in_default.ensures.complete w.cursor-is
      ];
}

pub returns-then-sees-clause-complete : goal.returns-then-sees-clause-complete
returns-then-sees-clause-complete c = record {
  ends = λ cut j p. doc_ends c.args.cursor.now c.loop-turn.cursor c.loop-turn.cursor c.loop-turn.document c.loop-turn._turn j (c.loop-turn.invariant.whole cut j p) (c.sees.ensures.seen c.if-sees.true) refl;
}

pub returns-in_err-recover-clause-complete : goal.returns-in_err-recover-clause-complete
returns-in_err-recover-clause-complete c = record {
  ends = λ cut j p.
      let h = c.loop-turn.invariant.whole cut j p in
      let other = not_end c.loop-turn.cursor c.sees.result c.sees.ensures.complete c.if-sees.false in
      let memory = doc_memory c.args.cursor.now c.loop-turn.cursor c.read_top.new.cursor c.loop-turn.document c.loop-turn._turn j cut p.1 h other c.in-Err.ensures.complete in
      let r = c.from_residual in
      record { ok = failed_ok r.result _ r.ensures.0; memory = failed_memory r.result _ r.ensures (c.in_err-recover.ensures.fault ∙ memory) };
}

pub returns-clause-complete : goal.returns-clause-complete
returns-clause-complete c = record {
  ends = λ cut j p.
      let h = c.loop-turn.invariant.whole cut j p in
      absurd (
      let n = h.few in
      let m = c.len.ensures in
      let s = c.args.cursor.now.tokens in
      let t = c.loop-turn-test.false in
      let u = c.saturating_add-turn-end.ensures in
      let a = s.small in
      let b = s.ok in
      omega arith);
}
