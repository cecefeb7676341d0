use Rattle.std.proofs.Common.{◌+◌, ◌*◌}
use Rattle.wac_component.specs.Content.{defined_content}
use Rattle.wac_component.specs.Height.{keys_height}
use Rattle.wac_component.specs.Key.{value_keys, defined_keys}
use Rattle.wac_component.proofs.+desc.Given as goal

abbrev pub decreases-defined::DefinedType::desc : goal.decreases-defined::DefinedType::desc
decreases-defined::DefinedType::desc l = 2 * keys_height l.types.now (defined_keys (defined_content l.self.now)) + 1

abbrev pub decreases-items::ValueType::desc : goal.decreases-items::ValueType::desc
decreases-items::ValueType::desc l = 2 * keys_height l.types.now (value_keys l.self.now)
