use Rattle.wac_names.proofs.Classes.{classes_decided}
use Rattle.wac_names.proofs.laws.classes_are_decided.Goals as goal

pub returns : goal.returns
returns c = classes_decided
