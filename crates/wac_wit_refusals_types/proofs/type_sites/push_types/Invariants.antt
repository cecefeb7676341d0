use Rattle.wac_wit_refusals_types.specs.BorrowSteps.{AreSitesPut, IsAmongTypes}
use Rattle.wac_wit_refusals_types.proofs.type_sites.push_types.Given as goal

abbrev pub invariant-loop-ty : goal.invariant-loop-ty
invariant-loop-ty l = AreSitesPut l.initial.followed.found.items l.placed (IsAmongTypes l.types) l.followed.found.items
