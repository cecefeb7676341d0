use Rattle.std.proofs.Common.{◌≡◌, Contains}
use Rattle.wac_wit_syntax.specs.declared.tree.InterfaceItem.{InterfaceItem}
use Rattle.wac_wit_validation_types.specs.Exports.{IsRepresented, MarksExports, Offers, named_items}
use Rattle.wac_wit_validation.specs.Checking.{IsSettingAt, Knows}
use Rattle.wac_wit_validation_types.specs.Denoted.{Setting}
use Rattle.wac_wit_validation_types.specs.Reading.{Renames}
use Rattle.wac_wit_validation_types.proofs.MarkFacts.{AllBelow}
use Rattle.wac_wit_validation.proofs.validator.Validator.is_interface.Given as goal

abbrev pub invariant-loop-item : goal.invariant-loop-item
invariant-loop-item l = record {
  marks : l.names.types.now ≡ l.self.types.now → (s : Setting) → IsSettingAt l.self l.scope s → Renames l.names s.renames → ((x : InterfaceItem) → Contains l.items x → Offers s x) → MarksExports s l.names l.initial.progress l.progress;
  covers : (s : Setting) → Knows s.sources l.self → Renames l.names s.renames → AllBelow (IsRepresented s (named_items l.names)) l.items l.item-index;
}
