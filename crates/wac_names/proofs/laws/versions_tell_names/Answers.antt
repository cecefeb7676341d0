use Rattle.wac_names.proofs.Tracks.{versions_tell}
use Rattle.wac_names.proofs.laws.versions_tell_names.Goals as goal

pub returns : goal.returns
returns c = versions_tell
