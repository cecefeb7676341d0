-- The characters that are gone over, and what is noted of them.
use Rattle.std.proofs.Common.{◌≡◌, true, chars, vec_len}
use Rattle.std.specs.Str.Iter.{char_indices_offset, char_indices_rest}
use Rattle.wac_wit_syntax.specs.Characters.{none_refused}
use Rattle.wac_wit_syntax.specs.Faults.{AreFaults}
use Rattle.wac_wit_syntax.proofs.Shown.{IsReached}
use Rattle.wac_wit_syntax.proofs.characters.note_characters.Given as goal

abbrev pub invariant-loop-at : goal.invariant-loop-at
invariant-loop-at l = record {
  can : (goal.iterator-loop-at).can_next l.at-iterator;
  finite : (goal.iterator-loop-at).is_finite l.at-iterator;
  reached : IsReached l.text (char_indices_offset l.at-iterator) (char_indices_rest l.at-iterator);
  shown : vec_len l.refusals.found ≡ 0 → none_refused (chars l.text) ≡ none_refused (chars (char_indices_rest l.at-iterator));
  quiet : none_refused (chars l.text) ≡ true → (none_refused (chars (char_indices_rest l.at-iterator)) ≡ true) × (l.refusals.found.items ≡ l.fn.refusals.found.items);
  kept : vec_len l.refusals.found ≡ 0 → vec_len l.fn.refusals.found ≡ 0;
  faults : AreFaults l.text l.fn.refusals.found.items → AreFaults l.text l.refusals.found.items;
}
