-- Each turn takes a byte at least, and is a step.
use Rattle.std.proofs.Common.{◌≡◌, ◌≤◌, length, vec_len}
use Rattle.wac_wit_syntax.specs.Faults.{AreFaults}
use Rattle.wac_wit_syntax.proofs.WholeTexts.{Follows, Precedes}
use Rattle.wac_wit_syntax.proofs.lexer.cut.Given as goal

abbrev pub invariant-loop-turn : goal.invariant-loop-turn
invariant-loop-turn l = record {
  turns : l._turn ≤ l.cutter.at;
  within : l.cutter.at ≤ length l.text;
  kept : vec_len l.refusals.found ≡ 0 → vec_len l.initial.refusals.found ≡ 0;
  back : vec_len l.refusals.found ≡ 0 → Precedes l.text l.cutter;
  on : Follows l.text l.cutter l.initial.refusals.found.items l.refusals.found.items;
  faults : AreFaults l.text l.initial.refusals.found.items → AreFaults l.text l.refusals.found.items;
}
