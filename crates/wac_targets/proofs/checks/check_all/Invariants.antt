use Rattle.std.proofs.Common.{◌≡◌, ◌∷◌, [], take}
use Rattle.wac_checker.specs.Cache.{IsSoundCache}
use Rattle.wac_checker.specs.Checker.{direction, depth, remembered}
use Rattle.wac_component.specs.Content.{named}
use Rattle.wac_targets.specs.Given.{items_in, IsGivenLawful}
use Rattle.wac_targets.specs.Noting.{AreNoted, note_of}
use Rattle.wac_targets.proofs.checks.check_all.Given as goal

abbrev pub invariant-loop-i : goal.invariant-loop-i
invariant-loop-i l = record {
  direction : direction l.checker ≡ direction l.fn.checker;
  depth : depth l.checker ≡ depth l.fn.checker;
  remembered : IsSoundCache (l.types ∷ l.types ∷ []) (remembered l.checker);
  lawful : IsGivenLawful l.given;
  same : items_in l.given ≡ items_in l.fn.given;
  noted : AreNoted l.types l.kind (items_in l.fn.given) (take l.i (named (λ k. k) l.wanted.entries)) (note_of l.fn.report) (note_of l.report);
}
