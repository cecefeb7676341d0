use Rattle.std.proofs.Common.{[], subst}
use Rattle.wac_component.specs.Tree.{func_tree}
use Rattle.wac_wit_validation_types.specs.Functions.{IsFuncOf}
use Rattle.wac_wit_validation_types.specs.Reading.{StandForTypes}
use Rattle.wac_wit_validation_types.specs.declared.names.NamedTypes.{NamedTypes}
use Rattle.wac_wit_validation_types.proofs.exports.is_func_item.Goals as goal

pub returns-in-Func : goal.returns-in-Func
returns-in-Func c = λ same s before.
    let told = subst (λ (k : NamedTypes). StandForTypes k s → IsFuncOf s c.args.item.now.signature [] (λ r. r) (func_tree k.types.now c.in-Func.id)) c.up_to.ensures (c.is_func.ensures same s) in
    record { id = c.in-Func.id; is = c.in-Func.is; holds = told before }
