use Rattle.wac_names.proofs.KeyTexts.{keys_without_key}
use Rattle.wac_names.proofs.laws.keys_have_no_key.Goals as goal

pub returns : goal.returns
returns c = keys_without_key
