use Rattle.std.proofs.Common.{◌≡◌}
use Rattle.wac_checker.specs.Believed.{told}
use Rattle.wac_checker.specs.Compared.{IsComparing}
use Rattle.wac_checker.proofs.compared.Compared.compare.Given as goal

abbrev pub invariant-loop-turn : goal.invariant-loop-turn
invariant-loop-turn l = record {
  way : IsComparing (told l.believed) l.sides.left.now l.sides.right.now l.self l.walk l.step;
  asked : l.walk.asked ≡ l.fn.walk.asked;
  unfit : l.self.unfit ≡ l.fn.self.unfit;
}
