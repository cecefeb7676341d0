use Rattle.std.proofs.Common.{List, Vec, sym, subst}
use Rattle.std.specs.declared.alloc.Global.{Global}
use Rattle.wac_component.specs.declared.worlds.ExternKind.{ExternKind}
use Rattle.wac_wit_validation_names.specs.WorldOnce.{GiveOnce}
use Rattle.wac_wit_validation.specs.OriginClauses.{TellsWorld}
use Rattle.wac_wit_validation_types.specs.Placed.{PlacedWorld}
use Rattle.wac_wit_scopes.specs.WitSources.{WitSources}
use Rattle.wac_wit_validation.specs.WorldChecking.{AreLayersOf, AreWorldSides, IsTextAt, text_content}
use Rattle.wac_wit_validation_names.specs.declared.layers.Layer.{Layer}
use Rattle.wac_wit_validation.specs.declared.marks.WorldMarks.{WorldMarks}
use Rattle.wac_wit_validation_types.proofs.NameFacts.{some_told}
use Rattle.wac_wit_validation.proofs.OneWorld.{has_one_extern}
use Rattle.wac_wit_validation.proofs.WorldFacts.{KeepsFound-trans}
use Rattle.wac_wit_validation.proofs.WorldOrigins.{world_added}
use Rattle.wac_wit_validation.proofs.validator.Validator.add_noted.Goals as goal

pub returns-clause-knows : goal.returns-clause-knows
returns-clause-knows c = λ of knows.
    let v = c.args.self.now in
    let x = c.world_marks.new.self in
    let text = c.in-Some-text_of.text in
    let content = text_content text in
    let here = c.in-Some-text_of.ensures.text of knows in
    let layers = some_told c.in_ok-layers.field-0 c.in-Some-2.layers (λ (ls : Vec Layer Global). (of : WitSources) (w : PlacedWorld) → IsTextAt v text of w → AreLayersOf of v w ls.items) c.in-Some-2.is c.in_ok-layers.ensures of here.0 here.1 in
    let sides = some_told c.in_ok-marks.field-0 c.in-Some-3.marks (λ (m : WorldMarks). (of : WitSources) (w : PlacedWorld) → IsTextAt x text of w → AreLayersOf of x w c.deref-2.result.now → AreWorldSides of x w content m) c.in-Some-3.is c.in_ok-marks.ensures.sides of here.0 in
    c.push_world.ensures.knows of (c.world_marks.ensures.stays.knows of knows) (world_added of v x c.world_marks.ensures.stays (record { place = c.in-Some.place; id = c.args.id; marks = c.in-Some-3.marks; layers = c.in-Some-2.layers }) text here.0 here.1 c.in-Some-text_of.ensures.place
    c.in-Some-text_of.ensures.entry layers (λ at ls. sides at (subst (AreLayersOf of x here.0) (sym c.deref-2.ensures.value) ls))
    (subst (λ (ls : List Layer). TellsWorld x ls content) c.deref-3.ensures.value (c.in_ok-tells_world.ensures c.if-not-branch-2.false))
    (has_one_extern of v here.0 c.in-Some-2.layers.items knows.interfaces layers (subst (λ (ls : List Layer). (k : ExternKind) → GiveOnce v.features k ls) c.deref.ensures.value (c.in_ok-layers_give_once.ensures c.if-not-branch.false))))

pub returns-in_err-push_world-clause-knows : goal.returns-in_err-push_world-clause-knows
returns-in_err-push_world-clause-knows c = λ of knows.
    let v = c.args.self.now in
    let x = c.world_marks.new.self in
    let text = c.in-Some-text_of.text in
    let content = text_content text in
    let here = c.in-Some-text_of.ensures.text of knows in
    let layers = some_told c.in_ok-layers.field-0 c.in-Some-2.layers (λ (ls : Vec Layer Global). (of : WitSources) (w : PlacedWorld) → IsTextAt v text of w → AreLayersOf of v w ls.items) c.in-Some-2.is c.in_ok-layers.ensures of here.0 here.1 in
    let sides = some_told c.in_ok-marks.field-0 c.in-Some-3.marks (λ (m : WorldMarks). (of : WitSources) (w : PlacedWorld) → IsTextAt x text of w → AreLayersOf of x w c.deref-2.result.now → AreWorldSides of x w content m) c.in-Some-3.is c.in_ok-marks.ensures.sides of here.0 in
    c.push_world.ensures.knows of (c.world_marks.ensures.stays.knows of knows) (world_added of v x c.world_marks.ensures.stays (record { place = c.in-Some.place; id = c.args.id; marks = c.in-Some-3.marks; layers = c.in-Some-2.layers }) text here.0 here.1 c.in-Some-text_of.ensures.place
    c.in-Some-text_of.ensures.entry layers (λ at ls. sides at (subst (AreLayersOf of x here.0) (sym c.deref-2.ensures.value) ls))
    (subst (λ (ls : List Layer). TellsWorld x ls content) c.deref-3.ensures.value (c.in_ok-tells_world.ensures c.if-not-branch-2.false))
    (has_one_extern of v here.0 c.in-Some-2.layers.items knows.interfaces layers (subst (λ (ls : List Layer). (k : ExternKind) → GiveOnce v.features k ls) c.deref.ensures.value (c.in_ok-layers_give_once.ensures c.if-not-branch.false))))

pub returns-clause-keeps : goal.returns-clause-keeps
returns-clause-keeps c = KeepsFound-trans c.args.self.now c.world_marks.new.self c.push_world.new.self c.world_marks.ensures.stays.found c.push_world.ensures.keeps

pub returns-in_err-push_world-clause-keeps : goal.returns-in_err-push_world-clause-keeps
returns-in_err-push_world-clause-keeps c = KeepsFound-trans c.args.self.now c.world_marks.new.self c.push_world.new.self c.world_marks.ensures.stays.found c.push_world.ensures.keeps

pub returns-clause-took : goal.returns-clause-took
returns-clause-took c = λ is. c.in_ok-push_world.ensures.took
