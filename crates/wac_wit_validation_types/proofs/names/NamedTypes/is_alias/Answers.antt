use Rattle.wac_wit_validation_types.specs.Denoted.{IsDefined, alias, another_name}
use Rattle.wac_wit_validation_types.proofs.Contents.{type_meaning-value}
use Rattle.wac_wit_validation_types.proofs.names.NamedTypes.is_alias.Goals as goal

pub returns-in-Name : goal.returns-in-Name
returns-in-Name c is s h t d m of = another_name c.in-Name.name (rw c.in-Name.is at d) (c.is_another_name.ensures is s h m of)

pub returns-in-Value : goal.returns-in-Value
returns-in-Value c is s h t d m of = type_meaning-value (IsDefined s t) c.args.self.now.types.now c.args.of.now c.in-Value.of m c.in-Value.is of (alias c.args.ty.now d c.in_default.not-Name (c.is_value_or_alias.ensures is s h))
