use Rattle.std.proofs.Common.{subst, sym}
use Rattle.wac_wit_refusals_types.specs.Handles.{IsValueDef}
use Rattle.wac_wit_refusals_types.proofs.HandleFacts.{value_def_of}
use Rattle.wac_wit_refusals_types.proofs.handles.is_value_def.Goals as goal

pub returns-in-Alias : goal.returns-in-Alias
returns-in-Alias c is = subst IsValueDef (sym c.in-Alias.is) (c.is_unnamed.ensures is)

pub returns-in_default : goal.returns-in_default
returns-in_default c is = value_def_of c.args.def.now c.in_default.not-Resource c.in_default.not-Alias
