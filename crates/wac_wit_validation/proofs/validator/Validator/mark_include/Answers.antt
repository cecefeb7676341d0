use Rattle.std.proofs.Common.{refl, subst}
use Rattle.wac_component.specs.Content.{world_content}
use Rattle.wac_wit_validation_types.specs.Placed.{PlacedWorld}
use Rattle.wac_wit_validation.specs.WorldChecking.{HasInterfaces}
use Rattle.wac_wit_validation.proofs.WorldFacts.{scope_of}
use Rattle.wac_wit_validation.proofs.validator.Validator.mark_include.Goals as goal

pub returns-in-Some-clause-marks : goal.returns-in-Some-clause-marks
returns-in-Some-clause-marks c = λ is of w at among.
    let valid = at.knows.worlds c.in-Some.world.now c.in-Some.ensures.0 in
    c.mark_all_of.ensures.marks is of w valid c.args.item.now at.knows (record { among = among; there = (c.if-not-is_there.ensures of at.knows.interfaces).0 refl; leads = c.in-Some.ensures.1 of w.scope at valid.written valid.at })

pub returns-in-Some-clause-covers : goal.returns-in-Some-clause-covers
returns-in-Some-clause-covers c = λ is of w at there x leads.
    let valid = at.knows.worlds c.in-Some.world.now c.in-Some.ensures.0 in
    let one = at.knows.interfaces.unambiguous.worlds w c.args.item.now.path valid.written x (scope_of of c.args.self.now c.args.scope w at) (c.in-Some.ensures.1 of w at valid.written valid.at) leads in
    subst (λ (y : PlacedWorld). HasInterfaces of y (world_content c.args.entry.now)) one (c.mark_all_of.ensures.covers is of valid)
