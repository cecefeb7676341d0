use Rattle.std.proofs.Common.{ap, refl, sym, ◌∙◌}
use Rattle.std.proofs.lemmas.Option.{same_Some}
use Rattle.wac_wit_validation.specs.Checking.{IsSettingAt}
use Rattle.wac_wit_scopes.specs.Scopes.{scope_syntax}
use Rattle.wac_wit_validation_types.specs.Denoted.{Setting, interface_setting}
use Rattle.wac_wit_validation_types.proofs.ItemFacts.{offered_items}
use Rattle.wac_wit_validation.proofs.validator.Validator.tells_origins.Goals as goal

pub returns : goal.returns
returns c = λ is of knows w at.
    let items = c.args.items.now in
    let s : Setting = interface_setting of (scope_syntax w) items in
    let setting : IsSettingAt c.args.self.now c.args.scope s = record { knows = knows; at = λ x h. ap scope_syntax (same_Some w x (sym at ∙ h)) } in
    record {
      items = λ x offered. c.in_ok-tells_items.ensures c.if-not-branch.false x (offered_items of (scope_syntax w) items x offered) s setting (λ n m is. same_Some n m is);
      roots = c.if-not-have_roots.ensures refl;
      owners = c.have_owners.ensures is;
    }
