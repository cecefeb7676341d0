use Rattle.std.proofs.Common.{◌≡◌, Ok, true, false, refl, ap, sym, ◌∙◌}
use Rattle.wac_checker_parts.proofs.KnownLemmas.{yes_not_err, yes_not_no}
use Rattle.wac_checker.proofs.WalkLemmas.{known_answer, pairs_first, unfit_answer, way_first}
use Rattle.wac_checker.specs.Believed.{told}
use Rattle.wac_checker.proofs.compared.Compared.compare.Goals as goal

pub returns-then-has-clause-answer : goal.returns-then-has-clause-answer
returns-then-has-clause-answer c = unfit_answer (told c.args.believed.now) c.args.sides.now.left.now c.args.sides.now.right.now c.args.sides.now.one c.args.self.now c.args.walk.now c.requires.truly c.requires.stands c.requires.open (rw c.kept_pair-asked.ensures at (c.has.ensures.0 c.if-has.true))

pub returns-then-not-branch-clause-answer : goal.returns-then-not-branch-clause-answer
returns-then-not-branch-clause-answer c =
    let known : c.add.result ≡ Ok false = c.in_ok-add.was ∙ ap Ok c.if-not-branch.true in
    known_answer (told c.args.believed.now) c.args.sides.now.left.now c.args.sides.now.right.now c.args.sides.now.one c.args.self.now c.args.walk.now c.requires.truly c.requires.stands c.requires.open (record { known = c.add.new.self; unfit = c.args.self.now.unfit }) (λ u. absurd (let there : c.has.result ≡ true = c.has.ensures.1 (rw c.kept_pair-asked.ensures u) in cc (there, c.if-has.false))) (rw c.kept_pair-asked.ensures at (c.add.ensures.there known)) (c.add.ensures.same (λ e. yes_not_no (sym e ∙ known))) refl

pub returns-in_err-add-clause-pairs : goal.returns-in_err-add-clause-pairs
returns-in_err-add-clause-pairs c = rw (c.add.ensures.same (λ e. yes_not_err _ (sym e ∙ c.in_err-add.was))) c.requires.truly.pairs

pub returns-then-not-branch-clause-pairs : goal.returns-then-not-branch-clause-pairs
returns-then-not-branch-clause-pairs c =
    let known : c.add.result ≡ Ok false = c.in_ok-add.was ∙ ap Ok c.if-not-branch.true in
    rw (c.add.ensures.same (λ e. yes_not_no (sym e ∙ known))) c.requires.truly.pairs

pub returns-in_err-step-clause-pairs : goal.returns-in_err-step-clause-pairs
returns-in_err-step-clause-pairs c =
    let said : c.add.result ≡ Ok true = c.in_ok-add.was ∙ ap Ok c.if-not-branch.false in
    pairs_first (told c.args.believed.now) c.args.sides.now.left.now c.args.sides.now.right.now c.args.sides.now.one c.args.self.now c.args.walk.now c.requires.truly c.requires.stands c.requires.open (record { known = c.add.new.self; unfit = c.args.self.now.unfit }) (rw c.kept_pair-asked.ensures at (c.add.ensures.new said)) (rw c.kept_pair-asked.ensures at (c.add.ensures.added said)) refl

pub loop-turn-init : goal.loop-turn-init
loop-turn-init c =
    let said : c.add.result ≡ Ok true = c.in_ok-add.was ∙ ap Ok c.if-not-branch.false in
    record {
      way = way_first (told c.args.believed.now) c.args.sides.now.left.now c.args.sides.now.right.now c.args.sides.now.one c.args.self.now c.args.walk.now c.requires.truly c.requires.stands c.requires.open (record { known = c.add.new.self; unfit = c.args.self.now.unfit }) (rw c.kept_pair-asked.ensures at (c.add.ensures.new said)) (rw c.kept_pair-asked.ensures at (c.add.ensures.added said)) refl (record { pair = c.args.walk.now.asked; index = 0 }) c.begin.new.self c.in_ok-step.step refl c.requires.parts (c.in_ok-step.ensures.begun (told c.args.believed.now)) c.in_ok-step.ensures.halt c.in_ok-step.ensures.asked c.in_ok-step.ensures.open c.in_ok-step.ensures.listed;
      asked = c.in_ok-step.ensures.asked;
      unfit = refl;
    }
