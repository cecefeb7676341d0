-- By looking at each.
use Rattle.std.proofs.Common.{refl}
use Rattle.wac_wit_syntax.specs.Names.{keywords}
use Rattle.wac_wit_syntax.proofs.laws.keywords_are_names.Goals as goal

pub returns : goal.returns
unfolding keywords
returns c = refl
