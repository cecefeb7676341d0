-- The steps lead from the start of the text to its end, or to a refusal.
use Rattle.std.proofs.Common.{◌≡◌, ◌⊎◌, ℕ, ◌<◌, ◌≤◌, Bool, true, [], ◌++◌, Result, Ok, Err, IfOk, OnOk, length, vec_len, nat_le, chars, inl, inr, sym, ap, ◌∙◌, subst, arith}
use Rattle.std.proofs.lemmas.Bool.Decides.{nat_tests}
use Rattle.wac_wit_syntax.specs.Characters.{none_refused}
use Rattle.wac_wit_syntax.specs.Parts.{tokens_of}
use Rattle.wac_wit_syntax.specs.Steps.{IsStep}
use Rattle.wac_wit_syntax.proofs.WholeTexts.{complete_at_end, follows_more, precedes_more, read_at_end, refusals_stay}
use Rattle.wac_wit_syntax.proofs.lexer.cut.Goals as goal
use Rattle.wac_wit_syntax.proofs.lexer.cut.Goals.{else-loop-turn-test, then-loop-turn-test+then-cutter-bytes, then-cutter-bytes-via-then-cutter-bytes, then-cutter-bytes-via-else-cutter-bytes+then-is_full}

if_ok_more : {T E : Type 0} (r : Result T E) (P Q : T → Type 0) → IfOk r P → ((v : T) → P v → Q v) → IfOk r Q
if_ok_more (Ok v) P Q h f = f v h
if_ok_more (Err e) P Q h f = tt

full_some : (b : Bool) (n : ℕ) → b ≡ nat_le 20 n → b ≡ true → 0 < n
full_some b n e h = let k : nat_le 20 n ≡ true = sym e ∙ h in grind (arith, nat_tests)

-- the end is reached where nothing is refused
reached : (n at len : ℕ) → (len ≤ at) ⊎ (0 < n) → n ≡ 0 → len ≤ at
reached n at len (inl h) e = h
reached n at len (inr h) e = absurd (omega arith)

pub returns-in_err-step-clause-faults : goal.returns-in_err-step-clause-faults
returns-in_err-step-clause-faults c = λ h. c.step.ensures.faults (c.loop-turn.invariant.faults (c.note_characters.ensures.faults h))

pub loop-turn-preserved : goal.loop-turn-preserved
loop-turn-preserved c =
    let text = c.args.text.now in
    let inv = c.loop-turn.invariant in
    let s : IsStep text c.loop-turn.cutter c.step.new.self c.loop-turn.refusals.found.items c.step.new.refusals.found.items =
    subst (λ r. OnOk r (IsStep text c.loop-turn.cutter c.step.new.self c.loop-turn.refusals.found.items c.step.new.refusals.found.items)) c.in_ok-step.was c.step.ensures.step in
    let before : vec_len c.step.new.refusals.found ≡ 0 → vec_len c.loop-turn.refusals.found ≡ 0 =
    λ h. (let k = s.kept (omega (arith, h, c.step.new.refusals.found.ok.0)) in omega (arith, k, c.loop-turn.refusals.found.ok.0)) in
    record {
      turns = omega (arith, s.begins, inv.turns);
      within = s.within;
      kept = λ h. inv.kept (before h);
      back = λ h. precedes_more text c.loop-turn.cutter c.step.new.self (inv.back (before h)) (s.back (omega (arith, h, c.step.new.refusals.found.ok.0)));
      on = follows_more text c.loop-turn.cutter c.step.new.self _ _ _ inv.on s;
      faults = λ h. c.step.ensures.faults (inv.faults h);
    }

pub returns-clause-read : goal.returns-clause-read
returns-clause-read c =
    let text = c.args.text.now in
    let inv = c.loop-turn.invariant in
    let same : length c.as_bytes-bytes.result.now ≡ length text = c.as_bytes-bytes.ensures.len in
    let exits : (length text ≤ c.loop-turn.cutter.at) ⊎ (0 < vec_len c.loop-turn.refusals.found) =
    elim c.loop-turn-test.branch [
      | else-loop-turn-test w ↦ inl (omega arith)
      | then-loop-turn-test+then-cutter-bytes w ↦ elim w.then-cutter-bytes.branch [
        | then-cutter-bytes-via-then-cutter-bytes v ↦ inl (omega arith)
        | then-cutter-bytes-via-else-cutter-bytes+then-is_full v ↦ inr (full_some v.is_full.result _ v.is_full.ensures v.if-is_full.true)
      ]
    ] in
    if_ok_more c.finish.result _ _ c.finish.ensures (λ tokens e h.
    let ends = reached (vec_len c.loop-turn.refusals.found) c.loop-turn.cutter.at (length text) exits h in
    let at : c.loop-turn.cutter.at ≡ length c.as_bytes-bytes.result.now = omega (arith, inv.within, ends, same) in
    let shown : none_refused (chars text) ≡ true = subst (λ r. OnOk r (vec_len c.note_characters.new.refusals.found ≡ 0 → none_refused (chars text) ≡ true)) c.in_ok-note_characters.was c.note_characters.ensures.shown (inv.kept h) in
    read_at_end text c.loop-turn.cutter tokens.items shown ends (inv.back h) (e ∙ ap (λ n. c.loop-turn.cutter.found.items ++ tokens_of n c.loop-turn.cutter.docs []) (sym at)))

pub returns-clause-complete : goal.returns-clause-complete
returns-clause-complete c = λ all r h.
    let text = c.args.text.now in
    let inv = c.loop-turn.invariant in
    let same : length c.as_bytes-bytes.result.now ≡ length text = c.as_bytes-bytes.ensures.len in
    let exits : (length text ≤ c.loop-turn.cutter.at) ⊎ (0 < vec_len c.loop-turn.refusals.found) =
    elim c.loop-turn-test.branch [
      | else-loop-turn-test w ↦ inl (omega arith)
      | then-loop-turn-test+then-cutter-bytes w ↦ elim w.then-cutter-bytes.branch [
        | then-cutter-bytes-via-then-cutter-bytes v ↦ inl (omega arith)
        | then-cutter-bytes-via-else-cutter-bytes+then-is_full v ↦ inr (full_some v.is_full.result _ v.is_full.ensures v.if-is_full.true)
      ]
    ] in
    let stays = refusals_stay text c.loop-turn.cutter all _ _ inv.on r in
    let quiet = c.note_characters.ensures.quiet r.shown in
    let none : vec_len c.loop-turn.refusals.found ≡ 0 = omega (arith, h, ap length stays, ap length quiet, c.loop-turn.refusals.found.ok.0, c.args.refusals.now.found.ok.0) in
    let ends = reached (vec_len c.loop-turn.refusals.found) c.loop-turn.cutter.at (length text) exits none in
    let at : c.loop-turn.cutter.at ≡ length c.as_bytes-bytes.result.now = omega (arith, inv.within, ends, same) in
    if_ok_more c.finish.result _ _ c.finish.ensures (λ tokens e.
    ((complete_at_end text c.loop-turn.cutter tokens.items all _ _ ends inv.on (e ∙ ap (λ n. c.loop-turn.cutter.found.items ++ tokens_of n c.loop-turn.cutter.docs []) (sym at)) r).0, none))

pub returns-clause-faults : goal.returns-clause-faults
returns-clause-faults c = λ h. c.loop-turn.invariant.faults (c.note_characters.ensures.faults h)
