use Rattle.wac_wit_refusals_types.proofs.HandleFacts.{next_by_use}
use Rattle.wac_wit_refusals_sites.proofs.TypeFacts.{some_fact}
use Rattle.wac_wit_refusals_types.proofs.handles.name_step.Goals as goal

pub returns-in-Some : goal.returns-in-Some
returns-in-Some c of knows known = next_by_use of c.args.at.now c.in-Some.next (some_fact _ _ _ c.in-Some.is c.in_ok-next.ensures of knows)

pub returns-in-None : goal.returns-in-None
returns-in-None c = c.defined_name.ensures
