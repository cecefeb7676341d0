use Rattle.wac_wit_validation_types.proofs.LawFacts.{version_met}
use Rattle.wac_wit_validation.proofs.laws.paths_lead_to_their_version.Goals as goal

pub returns : goal.returns
returns c = version_met
