use Rattle.wac_names.proofs.Classes.{classes_tell}
use Rattle.wac_names.proofs.laws.classes_tell_names.Goals as goal

pub returns : goal.returns
returns c = classes_tell
