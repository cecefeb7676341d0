use Rattle.wac_names.proofs.Standing.{version_total}
use Rattle.wac_names.proofs.laws.versions_are_ordered.Goals as goal

pub returns : goal.returns
returns c = version_total
