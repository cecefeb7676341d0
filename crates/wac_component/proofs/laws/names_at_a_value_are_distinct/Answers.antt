use Rattle.wac_component.proofs.DistinctNames.{HasDistinctNamesAt-resource}
use Rattle.wac_component.proofs.laws.names_at_a_value_are_distinct.Goals as goal

pub returns-in-Borrow : goal.returns-in-Borrow
returns-in-Borrow c = rw c.in-Borrow.is (HasDistinctNamesAt-resource c.args.types.now c.in-Borrow.field-0, tt)

pub returns-in-Own : goal.returns-in-Own
returns-in-Own c = rw c.in-Own.is (HasDistinctNamesAt-resource c.args.types.now c.in-Own.field-0, tt)
