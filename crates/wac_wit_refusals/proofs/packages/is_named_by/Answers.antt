use Rattle.wac_wit_refusals.proofs.NamingFacts.{named_by}
use Rattle.wac_wit_refusals.proofs.packages.is_named_by.Goals as goal

pub returns-then-is_apart : goal.returns-then-is_apart
returns-then-is_apart c is of placed tree = named_by of c.args.name.now c.args.other.now c.in-Some.own placed tree c.in-Some.is (c.is_apart.ensures c.if-is_apart.true) (c.is_same_package.ensures.0 is)
