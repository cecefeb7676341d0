use Rattle.wac_checker_parts.proofs.DifferenceLemmas.{one_name}
use Rattle.wac_checker_parts.proofs.sides.Sides.are_one_resource.Goals as goal

pub returns : goal.returns
returns c = one_name c.root_name_of.result.now c.root_name_of-2.result.now _ _ c.eq.result c.root_name_of.ensures c.root_name_of-2.ensures c.eq.ensures
