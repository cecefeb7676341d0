-- One attribute after the other.
use Rattle.wac_wit_syntax.specs.Productions.{token_at}
use Rattle.wac_wit_syntax.specs.declared.token.TokenKind.TheVariants.{At}
use Rattle.std.proofs.Common.{◌≡◌, ◌+◌, ◌≤◌, length, Ok, Err, false, true, inl, refl, sym, subst, arith, ap, ◌∙◌}
use Rattle.wac_wit_syntax.specs.Completing.{IsReadable}
use Rattle.wac_wit_syntax.specs.Cursors.{source}
use Rattle.wac_wit_syntax.specs.declared.cursor.Cursor.{Cursor}
use Rattle.wac_wit_syntax.specs.declared.token.Token.{Token}
use Rattle.wac_wit_syntax.proofs.Finishing.{failed_memory, failed_ok}
use Rattle.wac_wit_syntax.proofs.GatesLeft.{all_read, at_first, behind_at, none_past, one_read, read_further}
use Rattle.wac_wit_syntax.proofs.GateSteps.{all_gates, no_gates}
use Rattle.wac_wit_syntax.proofs.Items.{reads_at}
use Rattle.wac_wit_syntax.proofs.gates.read_gates.Goals as goal
use Rattle.wac_wit_syntax.proofs.gates.read_gates.Goals.{else-loop-turn-test, then-loop-turn-test+then-not-eat}

pub loop-turn-init : goal.loop-turn-init
loop-turn-init c = record { reads = no_gates c.args.cursor.now; docs = ap (λ (t : Token). t.docs) c.peek.ensures; exclusive = inl refl; none = λ n. ((refl, refl, refl), refl); whole = λ cut j p. at_first c.args.cursor.now _ j refl refl refl p }

pub loop-turn-preserved : goal.loop-turn-preserved
loop-turn-preserved c =
    let inv = c.loop-turn.invariant in
    record {
      reads = reads_at c.in_ok-refuse_both.ensures.rest (c.in_ok-read_gate.ensures.read c.args.cursor.now c.loop-turn.cursor inv.reads (c.eat.ensures.eaten c.if-not-eat.false));
      docs = c.in_ok-read_gate.ensures.docs ∙ inv.docs;
      exclusive = c.in_ok-refuse_both.ensures.none;
      none = λ n. absurd (n (subst (λ (x : Cursor). (token_at (source x) x.next).kind ≡ At) (inv.none n).1 (c.eat.ensures.seen c.if-not-eat.false)));
      whole = λ cut j p.
          let to = inv.whole cut j p in
          let at = behind_at c.args.cursor.now c.loop-turn.cursor c.eat.new.self c.loop-turn.gates c.loop-turn._turn j c.eat.result to cut p.1 (c.eat.ensures.seen c.if-not-eat.false) (c.eat.ensures.complete (λ e. cc)) in
          let on = (one_read c.args.cursor.now c.loop-turn.cursor c.eat.new.self c.read_gate.new.cursor c.loop-turn.gates c.read_gate.new.gates j (Ok tt) cut inv.exclusive at c.in_ok-read_gate.ensures.complete).0 in
          read_further c.args.cursor.now c.loop-turn.cursor c.eat.new.self c.read_gate.new.cursor c.refuse_both.new.cursor c.loop-turn.gates c.read_gate.new.gates c.loop-turn._turn j to at on c.in_ok-refuse_both.ensures.rest;
    }

pub returns-clause-read : goal.returns-clause-read
returns-clause-read c =
    let inv = c.loop-turn.invariant in
    let all = all_gates c.args.cursor.now c.loop-turn.cursor c.loop-turn.gates inv.reads inv.docs inv.exclusive in
    elim c.loop-turn-test.branch [
      | else-loop-turn-test w ↦ reads_at w.cursor-is all
      | then-loop-turn-test+then-not-eat w ↦ reads_at (w.cursor-is ∙ w.eat.ensures.left w.if-not-eat.true) all
    ]

pub returns-in_err-read_gate-clause-complete : goal.returns-in_err-read_gate-clause-complete
returns-in_err-read_gate-clause-complete c = record {
  ends = λ cut j p.
      let inv = c.loop-turn.invariant in
      let to = inv.whole cut j p in
      let at = behind_at c.args.cursor.now c.loop-turn.cursor c.eat.new.self c.loop-turn.gates c.loop-turn._turn j c.eat.result to cut p.1 (c.eat.ensures.seen c.if-not-eat.false) (c.eat.ensures.complete (λ e. cc)) in
      let memory = (one_read c.args.cursor.now c.loop-turn.cursor c.eat.new.self c.read_gate.new.cursor c.loop-turn.gates c.read_gate.new.gates j (Err c.in_err-read_gate.field-0.0) cut inv.exclusive at c.in_err-read_gate.ensures.complete).1 in
      record { ok = failed_ok c.from_residual.result _ c.from_residual.ensures.0; memory = failed_memory c.from_residual.result _ c.from_residual.ensures memory };
}

pub returns-in_err-refuse_both-clause-complete : goal.returns-in_err-refuse_both-clause-complete
returns-in_err-refuse_both-clause-complete c = record {
  ends = λ cut j p.
      let inv = c.loop-turn.invariant in
      let to = inv.whole cut j p in
      let at = behind_at c.args.cursor.now c.loop-turn.cursor c.eat.new.self c.loop-turn.gates c.loop-turn._turn j c.eat.result to cut p.1 (c.eat.ensures.seen c.if-not-eat.false) (c.eat.ensures.complete (λ e. cc)) in
      let on = (one_read c.args.cursor.now c.loop-turn.cursor c.eat.new.self c.read_gate.new.cursor c.loop-turn.gates c.read_gate.new.gates j (Ok tt) cut inv.exclusive at c.in_ok-read_gate.ensures.complete).0 in
      absurd (let f : false ≡ true = c.in_err-refuse_both.ensures.complete on.exclusive in cc);
}

pub returns-clause-complete : goal.returns-clause-complete
returns-clause-complete c = record {
  ends = λ cut j p.
      let to = c.loop-turn.invariant.whole cut j p in
      record {
        ok = elim c.loop-turn-test.branch [
          | else-loop-turn-test w ↦ w.cursor-is ∙ all_read c.args.cursor.now c.loop-turn.cursor c.loop-turn.gates c.loop-turn._turn j to
              (none_past (source c.loop-turn.cursor) c.loop-turn.cursor.next (subst (λ (x : Cursor). length (source x).tokens ≤ c.loop-turn.cursor.next) (sym to.same) (let t = to.turns in let n = c.len-turn-end.ensures in omega arith)))
          | then-loop-turn-test+then-not-eat w ↦ w.cursor-is ∙ w.eat.ensures.left w.if-not-eat.true ∙ all_read c.args.cursor.now c.loop-turn.cursor c.loop-turn.gates c.loop-turn._turn j to
              (λ at. let yes = (w.eat.ensures.complete (λ e. cc) (subst IsReadable (sym (ap source to.same)) cut) (c.loop-turn.cursor.next + 1) (at, refl)).0 in absurd (let f : false ≡ true = sym w.if-not-eat.true ∙ yes in cc))
        ];
        memory = tt;
      };
}

pub returns-clause-none : goal.returns-clause-none
returns-clause-none c = λ n. (c.loop-turn.invariant.none n).0
