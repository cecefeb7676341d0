use Rattle.std.proofs.Common.{List, length, refl, ap, sym, ◌∙◌, arith}
use Rattle.wac_checker_parts.specs.declared.parts.PairPart.{PairPart}
use Rattle.wac_checker.specs.declared.walk.Walk.{Walk}
use Rattle.wac_checker.proofs.WalkLemmas.{none_popped, way_back, way_differs, way_end}
use Rattle.wac_checker.specs.Believed.{told}
use Rattle.wac_checker.proofs.compared.Compared.turn.Goals as goal

pub returns-then-step-clause-way : goal.returns-then-step-clause-way
returns-then-step-clause-way c =
    let v : Walk = record { asked = c.args.walk.now.asked; parts = c.args.walk.now.parts; «open» = c.push.new.self; halt = c.args.walk.now.halt } in
    way_differs (told c.args.believed.now) c.args.sides.now.left.now c.args.sides.now.right.now c.args.sides.now.one c.args.self.now c.args.walk.now c.args.step.now c.requires.way v c.in_ok-push.ensures.items refl refl c.if-step.true

pub returns-in-None-clause-way : goal.returns-in-None-clause-way
returns-in-None-clause-way c = way_end (told c.args.believed.now) c.args.sides.now.left.now c.args.sides.now.right.now c.args.sides.now.one c.args.self.now c.args.walk.now c.args.step.now c.requires.way (let none = ap (λ (xs : List PairPart). length xs) c.requires.way.listed in omega (arith, none, c.len.ensures, c.if-step-len.false)) c.if-step.false c.args.walk.now (none_popped c.args.walk.now.open.items c.pop.new.self.items c.in-None.ensures.items (omega (arith, c.in-None.ensures.cases.1))) refl

pub returns-in-Some-clause-way : goal.returns-in-Some-clause-way
returns-in-Some-clause-way c = way_back (told c.args.believed.now) c.args.sides.now.left.now c.args.sides.now.right.now c.args.sides.now.one c.args.self.now c.args.walk.now c.args.step.now c.requires.way (let none = ap (λ (xs : List PairPart). length xs) c.requires.way.listed in omega (arith, none, c.len.ensures, c.if-step-len.false)) c.if-step.false c.pop.new.self.items c.in-Some.above _ c.in-Some.ensures.items refl c.truncate.ensures.before refl (c.truncate.ensures.items ∙ sym c.requires.way.listed) refl
