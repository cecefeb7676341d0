use Rattle.std.proofs.Common.{◌≡◌, Contains, List, refl, sym, subst, ◌∙◌}
use Rattle.wac_wit_syntax.specs.declared.tree.Rename.{Rename}
use Rattle.wac_wit_validation_types.specs.Exports.{AreNamesAt}
use Rattle.wac_wit_validation.specs.Checking.{IsSettingAt}
use Rattle.wac_wit_validation_types.specs.Denoted.{Setting, interface_setting, used}
use Rattle.wac_wit_validation_types.specs.declared.names.NamedTypes.{NamedTypes}
use Rattle.wac_wit_validation_types.proofs.NameFacts.{some_told}
use Rattle.wac_wit_validation.proofs.validator.Validator.is_use.Goals as goal

pub returns-in-Some-clause-marks : goal.returns-in-Some-clause-marks
returns-in-Some-clause-marks c = λ same one s at renames among.
    let item = c.args.item.now in
    let from = c.in-Some.from in
    let there = (c.is_there.ensures s.sources at.knows).0 c.if-not-is_there.false in
    let types = some_told c.in_ok-from.field-0 from (λ (n : NamedTypes). n.types.now ≡ c.args.self.now.types.now) c.in-Some.is c.in_ok-from.ensures.types in
    let told = some_told c.in_ok-from.field-0 from (λ (n : NamedTypes). (r : Setting) → IsSettingAt c.args.self.now c.args.scope r → AreNamesAt r item.path n) c.in-Some.is c.in_ok-from.ensures.named s at in
    c.are_used.ensures.marks same (one ∙ sym types) s (interface_setting s.sources told.scope told.decl.items.items) told.named
    (λ r within m named. used item r told.decl among there (subst (λ (l : List Rename). Contains l r) c.deref.ensures.value within) refl told.leads told.has named)
