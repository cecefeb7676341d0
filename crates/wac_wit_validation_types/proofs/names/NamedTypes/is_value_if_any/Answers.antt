use Rattle.wac_wit_validation_types.specs.Functions.{returns, returns_nothing}
use Rattle.wac_wit_validation_types.proofs.names.NamedTypes.is_value_if_any.Goals as goal

pub returns-in-Some-Some : goal.returns-in-Some-Some
returns-in-Some-Some c is s h = rw (c.in-Some-Some.is-0, c.in-Some-Some.is-1) (returns (c.is_value.ensures is s h))

pub returns-in-None-None : goal.returns-in-None-None
returns-in-None-None c is s h = rw (c.in-None-None.is-0, c.in-None-None.is-1) returns_nothing
