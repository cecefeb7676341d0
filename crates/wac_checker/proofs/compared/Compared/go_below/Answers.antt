use Rattle.std.proofs.Common.{◌≡◌, ◌++◌, ◌∷◌, [], Vec, Global, Ok, true, false, refl, ap, sym, ◌∙◌}
use Rattle.wac_checker.specs.declared.walk.WalkStep.{WalkStep}
use Rattle.wac_checker.specs.declared.walk.Walk.{Walk}
use Rattle.wac_checker_parts.proofs.KnownLemmas.{yes_not_err, yes_not_no}
use Rattle.wac_checker.proofs.WalkLemmas.{moved, pairs_opened, part_stands, way_below, way_known, way_over, way_told, way_unfit}
use Rattle.wac_checker.specs.Believed.{told}
use Rattle.wac_checker.proofs.BelievedLemmas.{among_fits}
use Rattle.wac_checker.proofs.compared.Compared.go_below.Goals as goal

pub returns-in_err-add-clause-pairs : goal.returns-in_err-add-clause-pairs
returns-in_err-add-clause-pairs c =
    let same = c.add.ensures.same (λ e. yes_not_err _ (sym e ∙ c.in_err-add.was)) in
    rw same c.requires.way.knows.pairs

pub returns-then-has-clause-way : goal.returns-then-has-clause-way
returns-then-has-clause-way c =
    let here = c.at-part.ensures in
    let v : Walk = record { asked = c.args.walk.now.asked; parts = c.args.walk.now.parts; «open» = c.push.new.self; halt = c.args.walk.now.halt } in
    way_unfit (told c.args.believed.now) c.args.sides.now.left.now c.args.sides.now.right.now c.args.sides.now.one c.args.self.now c.args.walk.now c.args.step.now c.requires.way c.at-part.result here v (rw c.kept_pair-kept.ensures at (c.has.ensures.0 c.if-has.true)) c.in_ok-push.ensures.items refl

pub is_believed-requires : goal.is_believed-requires
is_believed-requires c =
    let here = c.at-part.ensures in
    part_stands (told c.args.believed.now) c.args.sides.now.left.now c.args.sides.now.right.now c.args.sides.now.one c.args.self.now c.args.walk.now c.args.step.now c.requires.way c.at-part.result here

pub returns-then-is_believed-clause-way : goal.returns-then-is_believed-clause-way
returns-then-is_believed-clause-way c =
    let here = c.at-part.ensures in
    let stands = part_stands (told c.args.believed.now) c.args.sides.now.left.now c.args.sides.now.right.now c.args.sides.now.one c.args.self.now c.args.walk.now c.args.step.now c.requires.way c.at-part.result here in
    way_told (told c.args.believed.now) c.args.sides.now.left.now c.args.sides.now.right.now c.args.sides.now.one c.args.self.now c.args.walk.now c.args.step.now c.requires.way c.at-part.result here (among_fits (told c.args.believed.now) c.args.sides.now.left.now c.args.sides.now.right.now c.at-part.result.pair stands (c.is_believed.ensures c.if-is_believed.true))

pub begin-requires-clause-stands : goal.begin-requires-clause-stands
begin-requires-clause-stands c =
    let here = c.at-part.ensures in
    part_stands (told c.args.believed.now) c.args.sides.now.left.now c.args.sides.now.right.now c.args.sides.now.one c.args.self.now c.args.walk.now c.args.step.now c.requires.way c.at-part.result here

pub returns-in_err-below-clause-pairs : goal.returns-in_err-below-clause-pairs
returns-in_err-below-clause-pairs c =
    let here = c.at-part.ensures in
    let said : c.add.result ≡ Ok true = c.in_ok-add.was ∙ ap Ok c.if-branch.true in
    pairs_opened (told c.args.believed.now) c.args.sides.now.left.now c.args.sides.now.right.now c.args.sides.now.one c.args.self.now c.args.walk.now c.args.step.now c.requires.way c.at-part.result here (record { known = c.add.new.self; unfit = c.args.self.now.unfit }) c.args.walk.now c.args.step.now (rw c.kept_pair-kept.ensures at (c.add.ensures.new said)) (rw c.kept_pair-kept.ensures at (c.add.ensures.added said)) refl

pub returns-in_err-push-2-clause-pairs : goal.returns-in_err-push-2-clause-pairs
returns-in_err-push-2-clause-pairs c =
    let here = c.at-part.ensures in
    let said : c.add.result ≡ Ok true = c.in_ok-add.was ∙ ap Ok c.if-branch.true in
    pairs_opened (told c.args.believed.now) c.args.sides.now.left.now c.args.sides.now.right.now c.args.sides.now.one c.args.self.now c.args.walk.now c.args.step.now c.requires.way c.at-part.result here (record { known = c.add.new.self; unfit = c.args.self.now.unfit }) c.args.walk.now c.args.step.now (rw c.kept_pair-kept.ensures at (c.add.ensures.new said)) (rw c.kept_pair-kept.ensures at (c.add.ensures.added said)) refl

pub returns-in_ok-push-2-clause-pairs : goal.returns-in_ok-push-2-clause-pairs
returns-in_ok-push-2-clause-pairs c =
    let here = c.at-part.ensures in
    let said : c.add.result ≡ Ok true = c.in_ok-add.was ∙ ap Ok c.if-branch.true in
    pairs_opened (told c.args.believed.now) c.args.sides.now.left.now c.args.sides.now.right.now c.args.sides.now.one c.args.self.now c.args.walk.now c.args.step.now c.requires.way c.at-part.result here (record { known = c.add.new.self; unfit = c.args.self.now.unfit }) c.args.walk.now c.args.step.now (rw c.kept_pair-kept.ensures at (c.add.ensures.new said)) (rw c.kept_pair-kept.ensures at (c.add.ensures.added said)) refl

pub returns-else-has_more-clause-pairs : goal.returns-else-has_more-clause-pairs
returns-else-has_more-clause-pairs c =
    let here = c.at-part.ensures in
    let said : c.add.result ≡ Ok true = c.in_ok-add.was ∙ ap Ok c.if-branch.true in
    pairs_opened (told c.args.believed.now) c.args.sides.now.left.now c.args.sides.now.right.now c.args.sides.now.one c.args.self.now c.args.walk.now c.args.step.now c.requires.way c.at-part.result here (record { known = c.add.new.self; unfit = c.args.self.now.unfit }) c.args.walk.now c.args.step.now (rw c.kept_pair-kept.ensures at (c.add.ensures.new said)) (rw c.kept_pair-kept.ensures at (c.add.ensures.added said)) refl

pub returns-in_ok-push-2-clause-way : goal.returns-in_ok-push-2-clause-way
returns-in_ok-push-2-clause-way c =
    let here = c.at-part.ensures in
    let said : c.add.result ≡ Ok true = c.in_ok-add.was ∙ ap Ok c.if-branch.true in
    let v : Walk = record { asked = c.begin.new.self.asked; parts = c.begin.new.self.parts; «open» = c.push-then-has_more.new.self; halt = c.begin.new.self.halt } in
    way_below (told c.args.believed.now) c.args.sides.now.left.now c.args.sides.now.right.now c.args.sides.now.one c.args.self.now c.args.walk.now c.args.step.now c.requires.way c.at-part.result here (record { known = c.add.new.self; unfit = c.args.self.now.unfit }) v c.in_ok-below.below (rw c.kept_pair-kept.ensures at (c.add.ensures.new said)) (rw c.kept_pair-kept.ensures at (c.add.ensures.added said)) refl (c.in_ok-below.ensures.begun (told c.args.believed.now)) c.in_ok-below.ensures.halt c.in_ok-below.ensures.asked c.in_ok-below.ensures.listed (c.in_ok-push-2.ensures.items ∙ ap (λ (v : Vec WalkStep Global). v.items ++ moved c.args.step.now ∷ []) c.in_ok-below.ensures.open)

pub returns-else-has_more-clause-way : goal.returns-else-has_more-clause-way
returns-else-has_more-clause-way c =
    let here = c.at-part.ensures in
    let said : c.add.result ≡ Ok true = c.in_ok-add.was ∙ ap Ok c.if-branch.true in
    way_over (told c.args.believed.now) c.args.sides.now.left.now c.args.sides.now.right.now c.args.sides.now.one c.args.self.now c.args.walk.now c.args.step.now c.requires.way c.at-part.result here (record { known = c.add.new.self; unfit = c.args.self.now.unfit }) c.begin.new.self c.in_ok-below.below (rw c.kept_pair-kept.ensures at (c.add.ensures.new said)) (rw c.kept_pair-kept.ensures at (c.add.ensures.added said)) refl (c.in_ok-below.ensures.begun (told c.args.believed.now)) c.in_ok-below.ensures.halt c.in_ok-below.ensures.asked c.in_ok-below.ensures.listed c.in_ok-below.ensures.open (c.has_more.ensures.even c.if-has_more.false) (c.has_more.ensures.none c.if-has_more.false)

pub returns-else-branch-clause-pairs : goal.returns-else-branch-clause-pairs
returns-else-branch-clause-pairs c =
    let known : c.add.result ≡ Ok false = c.in_ok-add.was ∙ ap Ok c.if-branch.false in
    let same = c.add.ensures.same (λ e. yes_not_no (sym e ∙ known)) in
    rw same c.requires.way.knows.pairs

pub returns-else-branch-clause-way : goal.returns-else-branch-clause-way
returns-else-branch-clause-way c =
    let here = c.at-part.ensures in
    let known : c.add.result ≡ Ok false = c.in_ok-add.was ∙ ap Ok c.if-branch.false in
    way_known (told c.args.believed.now) c.args.sides.now.left.now c.args.sides.now.right.now c.args.sides.now.one c.args.self.now c.args.walk.now c.args.step.now c.requires.way c.at-part.result here (record { known = c.add.new.self; unfit = c.args.self.now.unfit }) (λ u. absurd (let there : c.has.result ≡ true = c.has.ensures.1 (rw c.kept_pair-kept.ensures u) in cc (there, c.if-has.false))) (rw c.kept_pair-kept.ensures at (c.add.ensures.there known)) (c.add.ensures.same (λ e. yes_not_no (sym e ∙ known))) refl
