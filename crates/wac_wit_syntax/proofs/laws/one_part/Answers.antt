-- The recursion on the text finds each part that begins it.
use Rattle.wac_wit_syntax.proofs.OnePart as parts
use Rattle.wac_wit_syntax.proofs.laws.one_part.Goals as goal

pub returns : goal.returns
returns c = parts.one_part
