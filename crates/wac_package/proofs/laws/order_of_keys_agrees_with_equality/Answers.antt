use Rattle.std.proofs.Common.{sym, ◌∙◌}
use Rattle.std.specs.Cmp.{Equal-is}
use Rattle.wac_package.specs.Key.{key_cmp}
use Rattle.wac_package.specs.KeyLaws.{key_ties}
use Rattle.wac_package.proofs.laws.order_of_keys_agrees_with_equality.Goals as goal

pub returns : goal.returns
returns c = λ j k.
    let ties = key_ties j k in
    let is = Equal-is (key_cmp j k) in
    (λ e. ties ∙ is.1 e, λ h. is.0 (sym ties ∙ h))
