use Rattle.wac_wit_validation_types.proofs.LawFacts.{handles_as_written}
use Rattle.wac_wit_validation.proofs.laws.handles_stand_as_written.Goals as goal

pub returns : goal.returns
returns c = handles_as_written
