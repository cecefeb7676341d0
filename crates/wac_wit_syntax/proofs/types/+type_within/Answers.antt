-- From the word to the end.
use Rattle.std.proofs.Common.{List, [], ◌∷◌, ◌++◌, ◌≡◌, ℕ, ◌+◌, None, true, false, refl, rules, ap, sym, ◌∙◌, subst, arith}
use Rattle.wac_wit_syntax.specs.Cursors.{Reads}
use Rattle.wac_wit_syntax.specs.TypeParts.{IsTypeAhead, Parted, Stage, word_text}
use Rattle.wac_wit_syntax.specs.declared.tree.TypeExpr.{TypeExpr}
use Rattle.wac_wit_syntax.specs.declared.types.Parts.{Parts}
use Rattle.wac_wit_syntax.proofs.NameTokens.{reads_word}
use Rattle.wac_wit_syntax.proofs.Finishing.{failed_memory, failed_ok}
use Rattle.wac_wit_syntax.proofs.TypesGone.{IsReadBehind, at_start, made_all, memory_opens, memory_other, memory_part, no_key, other_read, over_open, read_further, type_ahead, type_read, type_there, word_taken}
use Rattle.wac_wit_syntax.proofs.TypesRead.{part_read, part_taken, type_made}
use Rattle.wac_wit_syntax.proofs.types.+type_within.Goals as goal
use Rattle.wac_wit_syntax.proofs.types.+type_within.Goals.{then-not-branch+in_ok-type_within+in_ok-push, else-not-branch, else-loop-turn-test, then-loop-turn-test+then-not-is_open}

is_pushed : {p q : Parts} {us : List TypeExpr} → q ≡ p → p.types.items ≡ us → q.types.items ≡ us
is_pushed {p} {q} {us} e f = ap (λ (x : Parts). x.types.items) e ∙ f

pub loop-turn-init : goal.loop-turn-init
loop-turn-init t c = record {
  deep = omega arith;
  reads = (
    c.take.new.self,
    reads_word c.args.cursor.now c.take.new.self c.take.result (word_text c.in-Some.word) c.in-Some.ensures.word c.take.ensures.token c.take.ensures.rest c.take.ensures.next,
    subst (λ ts. Reads c.take.new.self c.opens.new.cursor (Stage c.in_ok-is_open.is_open c.in-Some.word ts false None)) (sym c.new.ensures.items) c.in_ok-is_open.ensures.read,
  );
  whole = λ j h. at_start c.args.cursor.now c.take.new.self c.opens.new.cursor c.in-Some.word _ c.in_ok-is_open.is_open c.args.depth j h c.in-Some.ensures.word c.in-Some.ensures.map c.take.ensures.rest
      (word_taken c.args.cursor.now c.take.new.self c.take.result (word_text c.in-Some.word) c.in-Some.ensures.word c.take.ensures.token c.take.ensures.next) c.in_ok-is_open.ensures.complete c.new.ensures.items refl refl;
  start = ap (λ t'. t'.span) c.peek.ensures;
}

pub loop-turn-preserved : goal.loop-turn-preserved
loop-turn-preserved t c =
    let inv = c.loop-turn.invariant in
    let behind = inv.reads.0 in
    let w = c.in-Some.word in
    let p = c.loop-turn.parts in
    let q = c.if-not-branch.parts in
    let begun = subst (λ o. Reads behind c.loop-turn.cursor (Stage o w p.types.items p.lacks_first p.length)) c.if-not-is_open.false inv.reads.2 in
    let parted : Reads behind c.if-not-branch.cursor (Parted w q.types.items q.lacks_first q.length) =
    elim c.if-not-branch.branch [
      | then-not-branch+in_ok-type_within+in_ok-push v ↦
          let left = c.in_ok-read_other.ensures.left v.if-not-branch.true in
          part_read behind c.loop-turn.cursor c.read_other.new.cursor v.type_within.new.cursor c.if-not-branch.cursor w p c.read_other.new.parts q _ begun left.0 left.1 (c.in_ok-read_other.ensures.ty v.if-not-branch.true)
          v.in_ok-type_within.ensures.read (is_pushed {us = c.read_other.new.parts.types.items ++ v.in_ok-type_within.field-0 ∷ []} v.parts-is v.in_ok-push.ensures.items) (ap (λ (x : Parts). x.lacks_first) v.parts-is) (ap (λ (x : Parts). x.length) v.parts-is) v.cursor-is
      | else-not-branch v ↦ part_taken behind c.read_other.new.cursor c.if-not-branch.cursor w c.read_other.new.parts q (c.in_ok-read_other.ensures.other v.if-not-branch.false behind begun) v.parts-is v.cursor-is
    ] in
    let part : (j : ℕ) → IsTypeAhead c.args.cursor.now c.args.depth j → IsReadBehind c.args.cursor.now c.if-not-branch.cursor w q (c.loop-turn._turn + 1) c.args.depth j = λ j h.
    let to = inv.whole j h in
    elim c.if-not-branch.branch [
      | then-not-branch+in_ok-type_within+in_ok-push v ↦
          let left = c.in_ok-read_other.ensures.left v.if-not-branch.true in
          let next = type_there c.args.cursor.now c.loop-turn.cursor c.read_other.new.cursor w p c.read_other.new.parts c.loop-turn.is_open c.in_ok-read_other.field-0 c.loop-turn._turn c.args.depth j h.readable to c.if-not-is_open.false c.in_ok-read_other.ensures.complete v.if-not-branch.true left.0 in
          let ahead = type_ahead c.args.cursor.now c.loop-turn.cursor c.read_other.new.cursor w p c.loop-turn.is_open c.loop-turn._turn c.args.depth j h.readable to inv.deep left.0 next in
          type_read c.args.cursor.now c.loop-turn.cursor c.read_other.new.cursor v.type_within.new.cursor c.if-not-branch.cursor w p c.read_other.new.parts q v.in_ok-type_within.field-0 c.loop-turn.is_open c.loop-turn._turn c.args.depth j to h.readable left.0 next
          (v.in_ok-type_within.ensures.complete next.end ahead) v.in_ok-type_within.ensures.key left.1
          (is_pushed {us = c.read_other.new.parts.types.items ++ v.in_ok-type_within.field-0 ∷ []} v.parts-is v.in_ok-push.ensures.items) (ap (λ (x : Parts). x.lacks_first) v.parts-is) (ap (λ (x : Parts). x.length) v.parts-is) v.cursor-is
      | else-not-branch v ↦ other_read c.args.cursor.now c.loop-turn.cursor c.read_other.new.cursor c.if-not-branch.cursor w p c.read_other.new.parts q c.loop-turn.is_open c.in_ok-read_other.field-0 c.loop-turn._turn c.args.depth j h.readable to c.if-not-is_open.false
          c.in_ok-read_other.ensures.complete v.if-not-branch.false v.cursor-is v.parts-is
    ] in
    record {
      deep = inv.deep;
      reads = (behind, inv.reads.1, c.in_ok-is_open-2.ensures.read behind parted);
      whole = λ j h. read_further c.args.cursor.now c.if-not-branch.cursor c.goes_on.new.cursor w q c.in_ok-is_open-2.is_open (c.loop-turn._turn + 1) c.args.depth j h.readable (part j h) c.in_ok-is_open-2.ensures.complete;
      start = inv.start;
    }

pub returns-clause-read : goal.returns-clause-read
returns-clause-read t c =
    let inv = c.loop-turn.invariant in
    let p = c.loop-turn.parts in
    type_made c.args.cursor.now inv.reads.0 c.loop-turn.cursor c.build.new.cursor c.loop-turn.is_open c.in-Some.word p.types.items p.lacks_first p.length c.peek.result.span c.last_span.result c.to-span.result c.build.result
    inv.reads.1 inv.reads.2 c.if-is_open.false inv.start c.last_span.ensures c.to-span.ensures c.build.ensures.made c.build.ensures.rest

pub returns-clause-key : goal.returns-clause-key
returns-clause-key t c = no_key c.args.cursor.now c.in-Some.word c.build.result (λ x. x) c.in-Some.ensures.word

pub returns-in_default-clause-complete : goal.returns-in_default-clause-complete
returns-in_default-clause-complete t c = λ j h. c.read_plain.ensures.complete.ends h.readable j (h.is_type.0, c.type_word.ensures.complete h.readable (search rules))

pub returns-in_err-is_open-clause-complete : goal.returns-in_err-is_open-clause-complete
returns-in_err-is_open-clause-complete t c = λ j h.
    let memory = memory_opens c.args.cursor.now c.take.new.self c.opens.new.cursor c.in-Some.word c.args.depth j h c.in-Some.ensures.word c.in-Some.ensures.map c.take.ensures.rest
    (word_taken c.args.cursor.now c.take.new.self c.take.result (word_text c.in-Some.word) c.in-Some.ensures.word c.take.ensures.token c.take.ensures.next) c.in_err-is_open.ensures.complete in
    record { ok = failed_ok c.from_residual.result _ c.from_residual.ensures.0; memory = failed_memory c.from_residual.result _ c.from_residual.ensures memory }

pub returns-in_err-read_other-clause-complete : goal.returns-in_err-read_other-clause-complete
returns-in_err-read_other-clause-complete t c = λ j h.
    let inv = c.loop-turn.invariant in
    let memory = memory_other c.args.cursor.now c.loop-turn.cursor c.read_other.new.cursor c.in-Some.word c.loop-turn.parts c.read_other.new.parts c.loop-turn.is_open c.loop-turn._turn c.args.depth j h.readable (inv.whole j h) c.if-not-is_open.false c.in_err-read_other.ensures.complete in
    record { ok = failed_ok c.from_residual-in_err-read_other.result _ c.from_residual-in_err-read_other.ensures.0; memory = failed_memory c.from_residual-in_err-read_other.result _ c.from_residual-in_err-read_other.ensures memory }

pub returns-in_err-type_within-clause-complete : goal.returns-in_err-type_within-clause-complete
returns-in_err-type_within-clause-complete t c = λ j h.
    let inv = c.loop-turn.invariant in
    let w = c.in-Some.word in
    let p = c.loop-turn.parts in
    let to = inv.whole j h in
    let left = c.in_ok-read_other.ensures.left c.if-not-branch.true in
    let next = type_there c.args.cursor.now c.loop-turn.cursor c.read_other.new.cursor w p c.read_other.new.parts c.loop-turn.is_open c.in_ok-read_other.field-0 c.loop-turn._turn c.args.depth j h.readable to c.if-not-is_open.false c.in_ok-read_other.ensures.complete c.if-not-branch.true left.0 in
    let ahead = type_ahead c.args.cursor.now c.loop-turn.cursor c.read_other.new.cursor w p c.loop-turn.is_open c.loop-turn._turn c.args.depth j h.readable to inv.deep left.0 next in
    record { ok = failed_ok c.from_residual-in_err-type_within.result _ c.from_residual-in_err-type_within.ensures.0; memory = failed_memory c.from_residual-in_err-type_within.result _ c.from_residual-in_err-type_within.ensures (c.in_err-type_within.ensures.complete next.end ahead).memory }

pub returns-in_err-is_open-2-clause-complete : goal.returns-in_err-is_open-2-clause-complete
returns-in_err-is_open-2-clause-complete t c = λ j h.
    let inv = c.loop-turn.invariant in
    let w = c.in-Some.word in
    let p = c.loop-turn.parts in
    let q = c.if-not-branch.parts in
    let part : (j : ℕ) → IsTypeAhead c.args.cursor.now c.args.depth j → IsReadBehind c.args.cursor.now c.if-not-branch.cursor w q (c.loop-turn._turn + 1) c.args.depth j = λ j h.
    let to = inv.whole j h in
    elim c.if-not-branch.branch [
      | then-not-branch+in_ok-type_within+in_ok-push v ↦
          let left = c.in_ok-read_other.ensures.left v.if-not-branch.true in
          let next = type_there c.args.cursor.now c.loop-turn.cursor c.read_other.new.cursor w p c.read_other.new.parts c.loop-turn.is_open c.in_ok-read_other.field-0 c.loop-turn._turn c.args.depth j h.readable to c.if-not-is_open.false c.in_ok-read_other.ensures.complete v.if-not-branch.true left.0 in
          let ahead = type_ahead c.args.cursor.now c.loop-turn.cursor c.read_other.new.cursor w p c.loop-turn.is_open c.loop-turn._turn c.args.depth j h.readable to inv.deep left.0 next in
          type_read c.args.cursor.now c.loop-turn.cursor c.read_other.new.cursor v.type_within.new.cursor c.if-not-branch.cursor w p c.read_other.new.parts q v.in_ok-type_within.field-0 c.loop-turn.is_open c.loop-turn._turn c.args.depth j to h.readable left.0 next
          (v.in_ok-type_within.ensures.complete next.end ahead) v.in_ok-type_within.ensures.key left.1
          (is_pushed {us = c.read_other.new.parts.types.items ++ v.in_ok-type_within.field-0 ∷ []} v.parts-is v.in_ok-push.ensures.items) (ap (λ (x : Parts). x.lacks_first) v.parts-is) (ap (λ (x : Parts). x.length) v.parts-is) v.cursor-is
      | else-not-branch v ↦ other_read c.args.cursor.now c.loop-turn.cursor c.read_other.new.cursor c.if-not-branch.cursor w p c.read_other.new.parts q c.loop-turn.is_open c.in_ok-read_other.field-0 c.loop-turn._turn c.args.depth j h.readable to c.if-not-is_open.false
          c.in_ok-read_other.ensures.complete v.if-not-branch.false v.cursor-is v.parts-is
    ] in
    let memory = memory_part c.args.cursor.now c.if-not-branch.cursor c.goes_on.new.cursor w q (c.loop-turn._turn + 1) c.args.depth j h.readable (part j h) c.in_err-is_open-2.ensures.complete in
    record { ok = failed_ok c.from_residual-in_err-is_open-2.result _ c.from_residual-in_err-is_open-2.ensures.0; memory = failed_memory c.from_residual-in_err-is_open-2.result _ c.from_residual-in_err-is_open-2.ensures memory }

pub returns-then-is_open-clause-complete : goal.returns-then-is_open-clause-complete
returns-then-is_open-clause-complete t c = λ j h.
    let to = c.loop-turn.invariant.whole j h in
    let first = at_start c.args.cursor.now c.take.new.self c.opens.new.cursor c.in-Some.word (record { types = c.new.result; lacks_first = false; length = None }) c.in_ok-is_open.is_open c.args.depth j h c.in-Some.ensures.word c.in-Some.ensures.map c.take.ensures.rest
    (word_taken c.args.cursor.now c.take.new.self c.take.result (word_text c.in-Some.word) c.in-Some.ensures.word c.take.ensures.token c.take.ensures.next) c.in_ok-is_open.ensures.complete c.new.ensures.items refl refl in
    elim c.loop-turn-test.branch [
      | else-loop-turn-test v ↦ absurd (over_open c.args.cursor.now c.opens.new.cursor c.loop-turn.cursor c.in-Some.word c.loop-turn.parts c.loop-turn.is_open c.loop-turn._turn c.args.depth j first.to.same to c.if-is_open.true
          (let n = c.len-turn-end.ensures in omega arith))
      | then-loop-turn-test+then-not-is_open v ↦ absurd (let f : false ≡ true = sym v.if-not-is_open.true ∙ c.if-is_open.true in cc)
    ]

pub returns-clause-complete : goal.returns-clause-complete
returns-clause-complete t c = λ j h.
    let to = c.loop-turn.invariant.whole j h in
    made_all c.args.cursor.now c.loop-turn.cursor c.build.new.cursor c.in-Some.word c.loop-turn.parts c.loop-turn.is_open c.loop-turn._turn c.args.depth j c.build.result to c.if-is_open.false c.build.ensures.complete c.build.ensures.rest
