use Rattle.wac_wit_validation_types.proofs.LawFacts.{one_interface_tree}
use Rattle.wac_wit_validation.proofs.laws.interfaces_have_one_tree.Goals as goal

pub returns : goal.returns
returns c = one_interface_tree
