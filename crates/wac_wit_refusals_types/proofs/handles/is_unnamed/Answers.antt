use Rattle.wac_wit_refusals_types.proofs.HandleFacts.{no_name_of}
use Rattle.wac_wit_refusals_types.proofs.handles.is_unnamed.Goals as goal

pub returns-in_default : goal.returns-in_default
returns-in_default c is = no_name_of c.args.ty.now c.in_default.not-Name
