use Rattle.wac_component.proofs.Roots.{one_source_has_one_name}
use Rattle.wac_component.proofs.laws.one_source_has_one_name.Goals as goal

pub returns : goal.returns
returns c = one_source_has_one_name
