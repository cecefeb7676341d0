use Rattle.wac_wit_validation.specs.Checking.{IsSettingAt, LeadsToFound}
use Rattle.wac_wit_validation_types.specs.Denoted.{Setting}
use Rattle.wac_wit_validation_names.specs.declared.places.FoundInterface.{FoundInterface}
use Rattle.wac_wit_validation_types.proofs.NameFacts.{some_told}
use Rattle.wac_wit_validation.proofs.LedNames.{AreNamesAt-found}
use Rattle.wac_wit_scopes.proofs.PathFacts.{if_all}
use Rattle.wac_wit_validation.proofs.validator.Validator.names_at.Goals as goal

pub returns-in-Some-clause-named : goal.returns-in-Some-clause-named
returns-in-Some-clause-named c =
    let v = c.args.self.now in
    let path = c.args.path.now in
    let found = c.in-Some.found in
    if_all c.names_with.result _ _ _ _ c.names_with.ensures.types c.names_with.ensures.entry c.names_with.ensures.limit (λ names types entry limit s setting.
    let to = some_told c.in_ok-found.field-0 found (λ (f : FoundInterface). (r : Setting) → IsSettingAt v c.args.scope r → LeadsToFound v r path f) c.in-Some.is c.in_ok-found.ensures s setting in
    AreNamesAt-found s v path found to.scope to.decl names setting.knows (setting.knows.found found to.among) to.at_scope to.at_item to.leads types entry limit)
