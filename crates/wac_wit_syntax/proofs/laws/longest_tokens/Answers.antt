-- The recursion on the text goes as far as each token does.
use Rattle.wac_wit_syntax.proofs.OnePart as parts
use Rattle.wac_wit_syntax.proofs.laws.longest_tokens.Goals as goal

pub returns : goal.returns
returns c = parts.longest_token
