use Rattle.std.proofs.Common.{inl, refl}
use Rattle.wac_component.specs.Reach.{here}
use Rattle.wac_aggregator_taking.proofs.steps.value_step.Goals as goal

pub returns-in-Defined : goal.returns-in-Defined
returns-in-Defined c = rw c.in-Defined.is (record { among = here; by = inl refl })

pub returns-in-Borrow : goal.returns-in-Borrow
returns-in-Borrow c = rw c.in-Borrow.is (record { among = here; by = inl refl })

pub returns-in-Own : goal.returns-in-Own
returns-in-Own c = rw c.in-Own.is (record { among = here; by = inl refl })
