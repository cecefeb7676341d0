use Rattle.std.proofs.Common.{sym}
use Rattle.std.specs.Option.{option_map}
use Rattle.wac_component.specs.Tree.{value_tree, root_name}
use Rattle.wac_wit_validation_types.proofs.Funcs.{made-other}
use Rattle.wac_wit_validation_types.proofs.names.NamedTypes.is_made.Goals as goal

pub returns-in-Constructor : goal.returns-in-Constructor
returns-in-Constructor c is s h = rw c.in-Constructor.is (c.is_constructed.ensures is s h)

pub returns-in-Method : goal.returns-in-Method
returns-in-Method c is s h =
    let types = c.args.self.now.types.now in
    let returned = option_map (value_tree types) c.args.of.now in
    (returned, c.is_value_if_any.ensures is s h, sym (made-other c.args.kind (root_name types c.args.resource.now) returned c.in-Method.is))
