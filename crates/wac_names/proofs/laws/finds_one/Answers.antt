use Rattle.wac_names.proofs.Finding.{finds_one}
use Rattle.wac_names.proofs.laws.finds_one.Goals as goal

pub returns : goal.returns
returns g c = finds_one g.row.V.Denot
