use Rattle.wac_wit_validation_types.proofs.LawFacts.{included_renamed}
use Rattle.wac_wit_validation.proofs.laws.included_stand_renamed.Goals as goal

pub returns : goal.returns
returns c = included_renamed
