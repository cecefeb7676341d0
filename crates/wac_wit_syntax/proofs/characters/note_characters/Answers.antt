-- One character more: it is noted exactly where it is refused.
use Rattle.std.proofs.Common.{◌≡◌, ◌+◌, ◌<◌, true, not, ◌&&◌, [], ◌∷◌, OnOk, get_or, vec_len, chars, sym, ap, ◌∙◌, subst, arith, rules}
use Rattle.std.specs.Char.{len_utf8}
use Rattle.std.proofs.lemmas.List.{nil_from_length}
use Rattle.std.proofs.lemmas.Str.{chars-nil}
use Rattle.std.specs.Str.Iter.{char_indices_offset, char_indices_rest}
use Rattle.wac_wit_syntax.specs.Characters.{is_refused_before, none_refused}
use Rattle.wac_wit_syntax.specs.Steps.{AddsOnly}
use Rattle.wac_wit_syntax.proofs.Shown.{faults_more, fits, next_chars, quiet_more, reached_more, shown_more}
use Rattle.wac_wit_syntax.proofs.characters.note_characters.Goals as goal

pub note_character-requires : goal.note_character-requires
note_character-requires c =
    let steps = c.in-Some.ensures.steps in
    let h = fits c.args.text.now (char_indices_offset c.loop-at.at-iterator) c.in-Some.c (char_indices_rest c.loop-at.at-iterator) (char_indices_rest c.next.new.self) c.loop-at.invariant.reached steps.1 in
    let e : c.in-Some.at ≡ char_indices_offset c.loop-at.at-iterator = steps.0 in
    omega (arith, h, e)

pub loop-at-preserved : goal.loop-at-preserved
loop-at-preserved c =
    let text = c.args.text.now in
    let s = c.loop-at.at-iterator in
    let t = c.next.new.self in
    let steps = c.in-Some.ensures.steps in
    let r = is_refused_before c.in-Some.c (get_or text (c.in-Some.at + 1) 0 ∷ []) in
    let here : is_refused_before c.in-Some.c (get_or text (char_indices_offset s + 1) 0 ∷ []) ≡ r = ap (λ n. is_refused_before c.in-Some.c (get_or text (n + 1) 0 ∷ [])) (sym steps.0) in
    let next : none_refused (chars (char_indices_rest s)) ≡ (not r && none_refused (chars (char_indices_rest t))) =
    next_chars text (char_indices_offset s) c.in-Some.c (char_indices_rest s) (char_indices_rest t) c.loop-at.invariant.reached steps.1 ∙ ap (λ b. not b && none_refused (chars (char_indices_rest t))) here in
    let only : AddsOnly (record { start = char_indices_offset s; end = char_indices_offset s + len_utf8 c.in-Some.c }) c.loop-at.refusals.found.items c.note_character.new.refusals.found.items =
    subst (λ n. AddsOnly (record { start = n; end = n + len_utf8 c.in-Some.c }) c.loop-at.refusals.found.items c.note_character.new.refusals.found.items) steps.0 c.note_character.ensures.only in
    let noted : r ≡ true → 0 < vec_len c.note_character.new.refusals.found =
    λ e. subst (λ o. OnOk o (0 < vec_len c.note_character.new.refusals.found)) c.in_ok-note_character.was (c.note_character.ensures.noted e) in
    record {
      can = search rules;
      finite = tt;
      reached = reached_more text (char_indices_offset s) c.in-Some.c (char_indices_offset t) (char_indices_rest s) (char_indices_rest t) c.loop-at.invariant.reached steps.1 steps.2;
      shown = shown_more r _ _ _ next _ _ noted c.note_character.ensures.kept c.loop-at.invariant.shown;
      quiet = quiet_more r _ _ _ _ _ _ next c.note_character.ensures.quiet c.loop-at.invariant.quiet;
      kept = λ h. c.loop-at.invariant.kept (c.note_character.ensures.kept h);
      faults = faults_more text (char_indices_offset s) c.in-Some.c (char_indices_rest s) (char_indices_rest t) r _ _ _ c.loop-at.invariant.reached steps.1 here only c.note_character.ensures.quiet c.loop-at.invariant.faults;
    }

pub returns-in_err-note_character-clause-quiet : goal.returns-in_err-note_character-clause-quiet
returns-in_err-note_character-clause-quiet c =
    let text = c.args.text.now in
    let s = c.loop-at.at-iterator in
    let t = c.next.new.self in
    let steps = c.in-Some.ensures.steps in
    let r = is_refused_before c.in-Some.c (get_or text (c.in-Some.at + 1) 0 ∷ []) in
    let here : is_refused_before c.in-Some.c (get_or text (char_indices_offset s + 1) 0 ∷ []) ≡ r = ap (λ n. is_refused_before c.in-Some.c (get_or text (n + 1) 0 ∷ [])) (sym steps.0) in
    let next : none_refused (chars (char_indices_rest s)) ≡ (not r && none_refused (chars (char_indices_rest t))) =
    next_chars text (char_indices_offset s) c.in-Some.c (char_indices_rest s) (char_indices_rest t) c.loop-at.invariant.reached steps.1 ∙ ap (λ b. not b && none_refused (chars (char_indices_rest t))) here in
    λ h. (quiet_more r _ _ _ _ _ _ next c.note_character.ensures.quiet c.loop-at.invariant.quiet h).1

pub returns-in_err-note_character-clause-faults : goal.returns-in_err-note_character-clause-faults
returns-in_err-note_character-clause-faults c =
    let text = c.args.text.now in
    let s = c.loop-at.at-iterator in
    let t = c.next.new.self in
    let steps = c.in-Some.ensures.steps in
    let r = is_refused_before c.in-Some.c (get_or text (c.in-Some.at + 1) 0 ∷ []) in
    let here : is_refused_before c.in-Some.c (get_or text (char_indices_offset s + 1) 0 ∷ []) ≡ r = ap (λ n. is_refused_before c.in-Some.c (get_or text (n + 1) 0 ∷ [])) (sym steps.0) in
    let only : AddsOnly (record { start = char_indices_offset s; end = char_indices_offset s + len_utf8 c.in-Some.c }) c.loop-at.refusals.found.items c.note_character.new.refusals.found.items =
    subst (λ n. AddsOnly (record { start = n; end = n + len_utf8 c.in-Some.c }) c.loop-at.refusals.found.items c.note_character.new.refusals.found.items) steps.0 c.note_character.ensures.only in
    faults_more text (char_indices_offset s) c.in-Some.c (char_indices_rest s) (char_indices_rest t) r _ _ _ c.loop-at.invariant.reached steps.1 here only c.note_character.ensures.quiet c.loop-at.invariant.faults

pub returns-clause-shown : goal.returns-clause-shown
returns-clause-shown c = λ h. c.loop-at.invariant.shown h ∙ ap (λ b. none_refused (chars b)) (nil_from_length (char_indices_rest c.loop-at.at-iterator) c.in-None.ensures.steps.0) ∙ ap none_refused chars-nil
