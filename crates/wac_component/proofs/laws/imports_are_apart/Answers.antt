use Rattle.wac_component.proofs.ImportKeys.{imports-apart}
use Rattle.wac_component.proofs.laws.imports_are_apart.Goals as goal

pub returns : goal.returns
returns c = imports-apart
