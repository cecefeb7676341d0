use Rattle.std.proofs.Common.{◌≡◌, List, refl, subst}
use Rattle.wac_model.specs.Text.{Text}
use Rattle.wac_wit_syntax.specs.declared.tree.Rename.{Rename}
use Rattle.wac_wit_validation_types.specs.Denoted.{renamed}
use Rattle.wac_wit_validation_types.specs.Reading.{new_name_or}
use Rattle.wac_wit_validation_names.specs.declared.layers.Layer.{Layer}
use Rattle.wac_wit_validation.proofs.LayerFacts.{AddsLayersIn-renamed, CoversInside-renamed}
use Rattle.wac_wit_validation_names.proofs.RenamedLayers.{AreRenamedLayers, HasRenamedLayers}
use Rattle.wac_wit_validation.proofs.validator.Validator.push_included.Goals as goal

pub returns-clause-each : goal.returns-clause-each
returns-clause-each c = λ yes of w at among before.
    let world = c.in-Some.world.now in
    let by = c.in_ok-by.by in
    let item = c.args.item.now in
    let old = c.args.layers.now.items in
    let new = c.push_renamed.new.layers.items in
    let valid = at.knows.worlds world c.in-Some.ensures.0 in
    let is = subst (λ (rs : List Rename). (n : Text) → new_name_or by n ≡ renamed rs n) c.deref.ensures.value c.in_ok-by.ensures in
    let each = subst (λ (ls : List Layer). AreRenamedLayers ls by old new) c.deref-2.ensures.value c.in_ok-push_renamed.ensures.each in
    AddsLayersIn-renamed of c.args.self.now c.args.scope item world by valid c.in-Some.ensures.1 is old new w at among ((c.if-not-is_there.ensures of at.knows.interfaces).0 refl) each before

pub returns-clause-all : goal.returns-clause-all
returns-clause-all c = λ yes of w at there u to.
    let world = c.in-Some.world.now in
    let by = c.in_ok-by.by in
    let item = c.args.item.now in
    let old = c.args.layers.now.items in
    let new = c.push_renamed.new.layers.items in
    let valid = at.knows.worlds world c.in-Some.ensures.0 in
    let is = subst (λ (rs : List Rename). (n : Text) → new_name_or by n ≡ renamed rs n) c.deref.ensures.value c.in_ok-by.ensures in
    let all = subst (λ (ls : List Layer). HasRenamedLayers ls by new) c.deref-2.ensures.value c.in_ok-push_renamed.ensures.all in
    CoversInside-renamed of c.args.self.now c.args.scope item world by valid c.in-Some.ensures.1 is old new w at all u to
