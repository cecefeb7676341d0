-- A name.
use Rattle.wac_wit_syntax.proofs.Finishing.{completes_weaker}
use Rattle.wac_wit_syntax.proofs.typedefs.IdentMember.read.Goals as goal

pub returns-clause-complete : goal.returns-clause-complete
returns-clause-complete c = completes_weaker (λ s i j p. p.0) c.ident.ensures.complete
