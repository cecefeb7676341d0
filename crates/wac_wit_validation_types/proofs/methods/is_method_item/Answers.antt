use Rattle.std.proofs.Common.{subst}
use Rattle.wac_component.specs.Tree.{func_tree, root_name}
use Rattle.wac_wit_validation_types.specs.Functions.{IsMethodOf}
use Rattle.wac_wit_validation_types.specs.Reading.{StandForTypes}
use Rattle.wac_wit_validation_types.specs.declared.names.NamedTypes.{NamedTypes}
use Rattle.wac_wit_validation_types.proofs.methods.is_method_item.Goals as goal

pub returns-in-Func-clause-behind : goal.returns-in-Func-clause-behind
returns-in-Func-clause-behind c = λ same s before.
    let told = subst (λ (k : NamedTypes). StandForTypes k s → IsMethodOf s c.args.method.now (root_name k.types.now c.args.id.now) (func_tree k.types.now c.in-Func.func)) c.up_to.ensures (c.is_method.ensures same s) in
    record { id = c.in-Func.func; is = c.in-Func.is; holds = told before }
