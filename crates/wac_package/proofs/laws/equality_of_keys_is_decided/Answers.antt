use Rattle.wac_package.specs.KeyLaws.{keys_decided}
use Rattle.wac_package.proofs.laws.equality_of_keys_is_decided.Goals as goal

pub returns : goal.returns
returns c = keys_decided
