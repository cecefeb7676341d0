use Rattle.wac_component.specs.Content.{types_of}
use Rattle.wac_component.proofs.Members.{AllStand-member}
use Rattle.wac_item_text.proofs.values.push_fields.Goals as goal

pub push_value-requires-clause-ty : goal.push_value-requires-clause-ty
push_value-requires-clause-ty c = AllStand-member c.args.types.now (types_of c.args.fields.now.entries) _ c.field_at-ty.result.1 c.field_at-ty.ensures c.requires.fields
