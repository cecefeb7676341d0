use Rattle.wac_aggregator_promises.proofs.ByTrack.{names_lead}
use Rattle.wac_aggregator_promises.proofs.laws.names_lead_to_tracks.Goals as goal

pub returns : goal.returns
returns c = names_lead
