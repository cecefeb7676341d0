use Rattle.wac_package.proofs.Defined.{determined}
use Rattle.wac_package.proofs.laws.definitions_are_determined.Goals as goal

pub returns : goal.returns
returns c = determined
