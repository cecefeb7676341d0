use Rattle.std.proofs.Common.{sym, ap, ◌∙◌}
use Rattle.wac_package.specs.Key.{key_cmp}
use Rattle.wac_package.specs.KeyLaws.{key_cmp-anti, key_cmp-self, key_cmp_total}
use Rattle.wac_package.proofs.laws.keys_are_ordered.Goals as goal

pub returns : goal.returns
returns c = record {
  total = key_cmp_total;
  ties = λ j k. (key_cmp-anti j k, λ e. ap (key_cmp j) (sym e) ∙ key_cmp-self j);
}
