-- Nothing is open before a type.
use Rattle.std.proofs.Common.{refl}
use Rattle.wac_wit_syntax.specs.Completing.{none}
use Rattle.wac_wit_syntax.proofs.types.read_type.Goals as goal

pub returns-clause-complete : goal.returns-clause-complete
returns-clause-complete c = record { ends = λ cut j p. c.type_within.ensures.complete j (record { readable = cut; is_type = p; count = 0; are_open = none; deep = refl }) }
