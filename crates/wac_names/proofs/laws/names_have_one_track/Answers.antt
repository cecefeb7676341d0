use Rattle.wac_names.proofs.Tracks.{tracked_same}
use Rattle.wac_names.proofs.laws.names_have_one_track.Goals as goal

pub returns : goal.returns
returns c = tracked_same
