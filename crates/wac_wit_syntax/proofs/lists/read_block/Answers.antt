-- An item more, or a refusal.
use Rattle.std.proofs.Common.{◌≡◌, ◌+◌, ◌∙◌, true, false, refl, sym, subst, arith}
use Rattle.wac_wit_syntax.specs.Cursors.{Reads, source}
use Rattle.wac_wit_syntax.specs.Lists.{InOrder}
use Rattle.wac_wit_syntax.specs.Productions.{◌▸◌, IsKind}
use Rattle.wac_wit_syntax.proofs.Covering.{reads_as}
use Rattle.wac_wit_syntax.specs.declared.cursor.Cursor.{Cursor}
use Rattle.wac_wit_syntax.specs.declared.token.TokenKind.TheVariants.{OpenBrace}
use Rattle.wac_wit_syntax.proofs.Finishing.{completes_failed, completes_weaker, failed_memory, failed_ok}
use Rattle.wac_wit_syntax.proofs.ListsLeft.{BlockLeft, IsBlockAhead, IsLeftTo, block_ends, block_parts, block_past, item_memory, item_read, left_first}
use Rattle.wac_wit_syntax.specs.Cursors.{HasNoRefusal}
use Rattle.wac_wit_syntax.proofs.Covering.{reads_refused}
use Rattle.wac_wit_syntax.proofs.Listing.{block_more}
use Rattle.wac_wit_syntax.proofs.lists.read_block.Goals as goal
use Rattle.wac_wit_syntax.proofs.lists.read_block.Goals.{in-Ok+in_ok-push-in-Ok, in-Err+in_ok-recover-in-Err}

pub loop-turn-init : goal.loop-turn-init
loop-turn-init g c = record {
  reads =
      subst (λ xs. Reads c.args.cursor.now c.expect.new.self (IsKind OpenBrace ▸ InOrder g.T.Item.item xs)) (sym c.new-items.ensures.items)
      (reads_as c.in_ok-expect.ensures.read (λ s i j r. (j, r, refl)));
  whole = λ j h. left_first c.args.cursor.now c.expect.new.self OpenBrace j (c.in_ok-expect.ensures.complete (λ e. cc)) h.readable h.is_block;
}

pub loop-turn-preserved : goal.loop-turn-preserved
loop-turn-preserved g c = record {
  reads =
      elim c.match-read.branch [
        | in-Ok+in_ok-push-in-Ok w ↦
            block_more g.T.Item.item _ c.loop-turn.cursor c.eat.new.self c.read.new.cursor c.match-read.cursor c.loop-turn.items w.push.new.self c.match-read.items w.in-Ok.item c.loop-turn.invariant.reads (c.eat.ensures.left c.if-eat.false) w.in-Ok.ensures.read
            w.in_ok-push-in-Ok.ensures.items w.items-is w.cursor-is
        | in-Err+in_ok-recover-in-Err w ↦ reads_refused _ c.match-read.cursor _ (λ q. (let n = w.in_ok-recover-in-Err.ensures.refused in let e = subst HasNoRefusal w.cursor-is q in omega arith))
      ];
  whole = λ j h.
      elim c.match-read.branch [
        | in-Ok+in_ok-push-in-Ok w ↦
            subst (λ (x : Cursor). IsLeftTo (BlockLeft g.T.Item.item) c.args.cursor.now x (c.loop-turn._turn + 1) j) (sym w.cursor-is)
            (item_read g.T.Item.item c.args.cursor.now c.loop-turn.cursor c.eat.new.self c.read.new.cursor c.loop-turn._turn j c.eat.result h.begin h.readable (c.loop-turn.invariant.whole j h) (c.eat.ensures.complete (λ e. cc)) c.if-eat.false
            (c.eat.ensures.left c.if-eat.false) w.in-Ok.ensures.complete)
        | in-Err+in_ok-recover-in-Err w ↦
            absurd (let e : false ≡ true = w.in_ok-recover-in-Err.ensures.memory
            (item_memory g.T.Item.item c.args.cursor.now c.loop-turn.cursor c.eat.new.self c.read.new.cursor c.loop-turn._turn j c.eat.result h.readable (c.loop-turn.invariant.whole j h) (c.eat.ensures.complete (λ e. cc)) c.if-eat.false
            (c.eat.ensures.left c.if-eat.false) w.in-Err.ensures.complete) in cc)
      ];
}

pub returns-in_err-expect-clause-complete : goal.returns-in_err-expect-clause-complete
returns-in_err-expect-clause-complete g c = λ begin. completes_weaker (block_parts g.T.Item.item) (completes_failed (c.in_err-expect.ensures.complete (λ e. cc)) c.from_residual.ensures)

pub returns-then-eat-clause-complete : goal.returns-then-eat-clause-complete
returns-then-eat-clause-complete g c = λ begin. record {
  ends = λ cut j p.
      let h : IsBlockAhead g.T.Item.item c.args.cursor.now j = record { begin = begin; readable = cut; is_block = block_parts g.T.Item.item (source c.args.cursor.now) c.args.cursor.now.next j p } in
      block_ends g.T.Item.item c.args.cursor.now c.loop-turn.cursor c.eat.new.self c.loop-turn._turn j c.eat.result begin cut (c.loop-turn.invariant.whole j h) (c.eat.ensures.seen c.if-eat.true) (c.eat.ensures.complete (λ e. cc));
}

pub returns-in_err-recover-in-Err-clause-complete : goal.returns-in_err-recover-in-Err-clause-complete
returns-in_err-recover-in-Err-clause-complete g c = λ begin. record {
  ends = λ cut j p.
      let h : IsBlockAhead g.T.Item.item c.args.cursor.now j = record { begin = begin; readable = cut; is_block = block_parts g.T.Item.item (source c.args.cursor.now) c.args.cursor.now.next j p } in
      let memory = item_memory g.T.Item.item c.args.cursor.now c.loop-turn.cursor c.eat.new.self c.read.new.cursor c.loop-turn._turn j c.eat.result cut (c.loop-turn.invariant.whole j h) (c.eat.ensures.complete (λ e. cc)) c.if-eat.false
      (c.eat.ensures.left c.if-eat.false) c.in-Err.ensures.complete in
      let r = c.from_residual-in_err-recover-in-Err in
      record { ok = failed_ok r.result _ r.ensures.0; memory = failed_memory r.result _ r.ensures (c.in_err-recover-in-Err.ensures.fault ∙ memory) };
}

pub returns-clause-complete : goal.returns-clause-complete
returns-clause-complete g c = λ begin. record {
  ends = λ cut j p.
      let all = block_parts g.T.Item.item (source c.args.cursor.now) c.args.cursor.now.next j p in
      let h : IsBlockAhead g.T.Item.item c.args.cursor.now j = record { begin = begin; readable = cut; is_block = all } in
      let first = left_first {P = BlockLeft g.T.Item.item} c.args.cursor.now c.expect.new.self OpenBrace j (c.in_ok-expect.ensures.complete (λ e. cc)) cut all in
      absurd (block_past g.T.Item.item c.args.cursor.now c.expect.new.self c.loop-turn.cursor c.loop-turn._turn j begin first.same (c.loop-turn.invariant.whole j h) (let n = c.len-turn-end.ensures in omega arith));
}
