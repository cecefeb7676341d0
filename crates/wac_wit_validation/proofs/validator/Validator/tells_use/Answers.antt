use Rattle.std.proofs.Common.{Contains, List, subst, sym}
use Rattle.wac_wit_syntax.specs.declared.tree.Rename.{Rename}
use Rattle.wac_wit_validation.specs.Checking.{IsSettingAt, LeadsToFound}
use Rattle.wac_wit_validation_types.specs.Denoted.{Setting}
use Rattle.wac_wit_validation_names.specs.declared.places.FoundInterface.{FoundInterface}
use Rattle.wac_wit_validation_types.proofs.NameFacts.{some_told}
use Rattle.wac_wit_validation.proofs.validator.Validator.tells_use.Goals as goal

pub returns-in-Some : goal.returns-in-Some
returns-in-Some c = λ is s at renames there r within.
    let v = c.args.self.now in
    let path = c.args.item.now.path in
    let from = c.in-Some.from in
    let told = c.tells_names.ensures is r (subst (λ (l : List Rename). Contains l r) (sym c.deref.ensures.value) within) in
    record {
      found = from;
      leads = some_told c.in_ok-from.field-0 from (λ (f : FoundInterface). (k : Setting) → IsSettingAt v c.args.scope k → LeadsToFound v k path f) c.in-Some.is c.in_ok-from.ensures s at;
      entry = told.0;
      at = told.1;
      told = told.2 s.renames renames;
    }
