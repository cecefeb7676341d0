use Rattle.wac_names.proofs.Tracks.{compatible_equivalence}
use Rattle.wac_names.proofs.laws.compatibility_is_an_equivalence.Goals as goal

pub returns : goal.returns
returns c = compatible_equivalence
