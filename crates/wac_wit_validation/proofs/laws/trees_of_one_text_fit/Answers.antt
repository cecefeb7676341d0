use Rattle.wac_wit_validation_types.proofs.LawFacts.{one_text_fits}
use Rattle.wac_wit_validation.proofs.laws.trees_of_one_text_fit.Goals as goal

pub returns : goal.returns
returns c = one_text_fits
