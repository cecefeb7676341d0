use Rattle.wac_names.proofs.Classes.{keys_are_tracks}
use Rattle.wac_names.proofs.laws.key_of_a_name_is_its_track.Goals as goal

pub returns : goal.returns
returns c = keys_are_tracks
