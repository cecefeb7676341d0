use Rattle.std.proofs.Common.{◌≡◌, false, true}
use Rattle.wac_wit_refusals_types.proofs.type_names.use_gives.Goals as goal

pub returns-then-gives : goal.returns-then-gives
returns-then-gives c of knows given enabled = (c.is_there.ensures of knows).1 enabled

pub returns : goal.returns
returns c of knows given enabled = let yes : c.gives.result ≡ true = c.gives.ensures.1 given in let no : c.gives.result ≡ false = c.if-gives.false in absurd (cc)
