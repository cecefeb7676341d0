-- A member more, or the end.
use Rattle.std.proofs.Common.{◌+◌, inr, refl, sym, subst, arith}
use Rattle.wac_wit_syntax.specs.Cursors.{Reads}
use Rattle.wac_wit_syntax.specs.Productions.{◌▸◌, IsKind}
use Rattle.wac_wit_syntax.proofs.Covering.{reads_as}
use Rattle.wac_wit_syntax.proofs.Finishing.{completes_failed, failed_memory, failed_ok}
use Rattle.wac_wit_syntax.proofs.ListsLeft.{IsListAhead, ListLeft, closer_no_comma, closer_solid, comma_read, end_missing, end_read, left_ends, left_first, list_past, member_memory, member_read}
use Rattle.wac_wit_syntax.proofs.Listing.{Terminated, list_closed, list_ended, list_more, reads_kind}
use Rattle.wac_wit_syntax.proofs.lists.read_list.Goals as goal

pub returns-then-eat-clause-read : goal.returns-then-eat-clause-read
returns-then-eat-clause-read g c = λ o e.
    let f = c.args.form in
    list_closed (g.T.Member.member f.needs_alias) c.args.cursor.now c.loop-turn.cursor c.eat.new.self f.open f.close c.loop-turn.members.items (c.loop-turn.invariant.reads o) (reads_kind f.close _ _ e (c.eat.ensures.eaten c.if-eat.true))

pub returns-then-eat-2-clause-read : goal.returns-then-eat-2-clause-read
returns-then-eat-2-clause-read g c = λ o e.
    let f = c.args.form in
    list_ended (g.T.Member.member f.needs_alias) c.args.cursor.now c.loop-turn.cursor c.eat.new.self c.read.new.cursor c.eat-in-loop-turn.new.self c.eat-then-not-eat.new.self f.open f.close c.loop-turn.members.items c.push.new.self.items c.in_ok-read.field-0
    (c.loop-turn.invariant.reads o) (c.eat.ensures.left c.if-eat.false) c.in_ok-read.ensures.read (c.eat-in-loop-turn.ensures.left c.if-not-eat.true) (reads_kind f.close _ _ e (c.eat-then-not-eat.ensures.eaten c.if-eat-2.true)) c.in_ok-push.ensures.items

pub loop-turn-init : goal.loop-turn-init
loop-turn-init g c = record {
  reads = λ o.
      subst (λ xs. Reads c.args.cursor.now c.expect.new.self (IsKind c.args.form.open ▸ Terminated (g.T.Member.member c.args.form.needs_alias) xs)) (sym c.new-members.ensures.items)
      (reads_as (reads_kind c.args.form.open c.args.cursor.now c.expect.new.self o c.in_ok-expect.ensures.read) (λ s i j r. (j, r, refl)));
  whole = λ j h. left_first c.args.cursor.now c.expect.new.self c.args.form.open j (c.in_ok-expect.ensures.complete h.solid) h.readable h.is_list;
}

pub loop-turn-preserved : goal.loop-turn-preserved
loop-turn-preserved g c = record {
  reads = λ o.
      let f = c.args.form in
      list_more (g.T.Member.member f.needs_alias) c.args.cursor.now c.loop-turn.cursor c.eat.new.self c.read.new.cursor c.eat-in-loop-turn.new.self f.open c.loop-turn.members.items c.push.new.self.items c.in_ok-read.field-0
      (c.loop-turn.invariant.reads o) (c.eat.ensures.left c.if-eat.false) c.in_ok-read.ensures.read (c.eat-in-loop-turn.ensures.eaten c.if-not-eat.false) c.in_ok-push.ensures.items;
  whole = λ j h.
      let P = g.T.Member.member c.args.form.needs_alias in
      let m = member_read P c.args.form.close c.args.cursor.now c.loop-turn.cursor c.eat.new.self c.read.new.cursor c.loop-turn._turn j c.eat.result h.begin (inr h.closer) h.readable (c.loop-turn.invariant.whole j h)
      (c.eat.ensures.complete (closer_solid c.args.form.close h.closer)) c.if-eat.false (c.eat.ensures.left c.if-eat.false) c.in_ok-read.ensures.complete in
      comma_read P c.args.form.close c.args.cursor.now c.read.new.cursor c.eat-in-loop-turn.new.self (c.loop-turn._turn + 1) j c.eat-in-loop-turn.result (inr h.closer) h.readable m (c.eat-in-loop-turn.ensures.seen c.if-not-eat.false) (closer_no_comma c.args.form.close h.closer)
      (c.eat-in-loop-turn.ensures.complete (λ e. cc));
}

pub returns-in_err-expect-clause-complete : goal.returns-in_err-expect-clause-complete
returns-in_err-expect-clause-complete g c = λ begin closer solid. completes_failed (c.in_err-expect.ensures.complete solid) c.from_residual.ensures

pub returns-then-eat-clause-complete : goal.returns-then-eat-clause-complete
returns-then-eat-clause-complete g c = λ begin closer solid. record {
  ends = λ cut j p.
      let h : IsListAhead (g.T.Member.member c.args.form.needs_alias) c.args.form.open c.args.form.close c.args.cursor.now j = record { begin = begin; closer = closer; solid = solid; readable = cut; is_list = p } in
      left_ends (g.T.Member.member c.args.form.needs_alias) c.args.form.close c.args.cursor.now c.loop-turn.cursor c.eat.new.self c.loop-turn._turn j c.eat.result begin (inr closer) cut (c.loop-turn.invariant.whole j h) (c.eat.ensures.seen c.if-eat.true)
      (c.eat.ensures.complete (closer_solid c.args.form.close closer));
}

pub returns-in_err-read-clause-complete : goal.returns-in_err-read-clause-complete
returns-in_err-read-clause-complete g c = λ begin closer solid. record {
  ends = λ cut j p.
      let h : IsListAhead (g.T.Member.member c.args.form.needs_alias) c.args.form.open c.args.form.close c.args.cursor.now j = record { begin = begin; closer = closer; solid = solid; readable = cut; is_list = p } in
      let memory = member_memory (g.T.Member.member c.args.form.needs_alias) c.args.form.close c.args.cursor.now c.loop-turn.cursor c.eat.new.self c.read.new.cursor c.loop-turn._turn j c.eat.result (inr closer) cut (c.loop-turn.invariant.whole j h)
      (c.eat.ensures.complete (closer_solid c.args.form.close closer)) c.if-eat.false (c.eat.ensures.left c.if-eat.false) c.in_err-read.ensures.complete in
      record { ok = failed_ok c.from_residual-in_err-read.result _ c.from_residual-in_err-read.ensures.0; memory = failed_memory c.from_residual-in_err-read.result _ c.from_residual-in_err-read.ensures memory };
}

pub returns-then-eat-2-clause-complete : goal.returns-then-eat-2-clause-complete
returns-then-eat-2-clause-complete g c = λ begin closer solid. record {
  ends = λ cut j p.
      let P = g.T.Member.member c.args.form.needs_alias in
      let h : IsListAhead (g.T.Member.member c.args.form.needs_alias) c.args.form.open c.args.form.close c.args.cursor.now j = record { begin = begin; closer = closer; solid = solid; readable = cut; is_list = p } in
      let m = member_read P c.args.form.close c.args.cursor.now c.loop-turn.cursor c.eat.new.self c.read.new.cursor c.loop-turn._turn j c.eat.result begin (inr closer) cut (c.loop-turn.invariant.whole j h)
      (c.eat.ensures.complete (closer_solid c.args.form.close closer)) c.if-eat.false (c.eat.ensures.left c.if-eat.false) c.in_ok-read.ensures.complete in
      end_read P c.args.form.close c.args.cursor.now c.read.new.cursor c.eat-in-loop-turn.new.self c.eat-then-not-eat.new.self (c.loop-turn._turn + 1) j c.eat-in-loop-turn.result c.eat-then-not-eat.result cut m
      (c.eat-in-loop-turn.ensures.complete (λ e. cc)) c.if-not-eat.true (c.eat-in-loop-turn.ensures.left c.if-not-eat.true) (c.eat-then-not-eat.ensures.complete (closer_solid c.args.form.close closer));
}

pub returns-then-not-eat-clause-complete : goal.returns-then-not-eat-clause-complete
returns-then-not-eat-clause-complete g c = λ begin closer solid. record {
  ends = λ cut j p.
      let P = g.T.Member.member c.args.form.needs_alias in
      let h : IsListAhead (g.T.Member.member c.args.form.needs_alias) c.args.form.open c.args.form.close c.args.cursor.now j = record { begin = begin; closer = closer; solid = solid; readable = cut; is_list = p } in
      let m = member_read P c.args.form.close c.args.cursor.now c.loop-turn.cursor c.eat.new.self c.read.new.cursor c.loop-turn._turn j c.eat.result begin (inr closer) cut (c.loop-turn.invariant.whole j h)
      (c.eat.ensures.complete (closer_solid c.args.form.close closer)) c.if-eat.false (c.eat.ensures.left c.if-eat.false) c.in_ok-read.ensures.complete in
      absurd (end_missing P c.args.form.close c.args.cursor.now c.read.new.cursor c.eat-in-loop-turn.new.self c.eat-then-not-eat.new.self (c.loop-turn._turn + 1) j c.eat-in-loop-turn.result c.eat-then-not-eat.result cut m
      (c.eat-in-loop-turn.ensures.complete (λ e. cc)) c.if-not-eat.true (c.eat-in-loop-turn.ensures.left c.if-not-eat.true) (c.eat-then-not-eat.ensures.complete (closer_solid c.args.form.close closer)) c.if-eat-2.false);
}

pub returns-clause-complete : goal.returns-clause-complete
returns-clause-complete g c = λ begin closer solid. record {
  ends = λ cut j p.
      let P = g.T.Member.member c.args.form.needs_alias in
      let h : IsListAhead (g.T.Member.member c.args.form.needs_alias) c.args.form.open c.args.form.close c.args.cursor.now j = record { begin = begin; closer = closer; solid = solid; readable = cut; is_list = p } in
      let first = left_first {P = ListLeft P c.args.form.close} c.args.cursor.now c.expect.new.self c.args.form.open j (c.in_ok-expect.ensures.complete solid) cut p in
      absurd (list_past P c.args.form.close c.args.cursor.now c.expect.new.self c.loop-turn.cursor c.loop-turn._turn j begin (inr closer) first.same (c.loop-turn.invariant.whole j h) (let n = c.len-turn-end.ensures in omega arith));
}
