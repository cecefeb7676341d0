use Rattle.wac_wit_validation_types.proofs.LawFacts.{one_world_tree}
use Rattle.wac_wit_validation.proofs.laws.worlds_have_one_tree.Goals as goal

pub returns : goal.returns
returns c = one_world_tree
