use Rattle.wac_wit_validation_types.specs.Denoted.{IsDefined, a_resource, resource_type, type_name}
use Rattle.wac_wit_validation_types.proofs.Contents.{type_meaning-only}
use Rattle.wac_wit_validation_types.proofs.names.NamedTypes.is_defined.Goals as goal

pub returns-in-Resource : goal.returns-in-Resource
returns-in-Resource c is s renames h m of =
    let item = c.args.item.now in
    type_meaning-only (IsDefined s item) c.args.self.now.types.now c.args.of.now (resource_type (type_name s item)) m (c.is_resource.ensures is s.renames renames) of (a_resource c.in-Resource.field-0 c.in-Resource.is)
