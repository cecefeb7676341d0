use Rattle.wac_component.proofs.DistinctNames.{HasDistinctNamesAt-resource}
use Rattle.wac_component.proofs.laws.names_at_ids_are_distinct.Goals as goal

pub returns-in-Resource : goal.returns-in-Resource
returns-in-Resource c = rw c.in-Resource.is (HasDistinctNamesAt-resource c.args.types.now c.in-Resource.field-0, tt)
