use Rattle.std.proofs.Common.{◌≡◌, Contains}
use Rattle.std.specs.Borrow.{Bor}
use Rattle.wac_wit_syntax.specs.declared.tree.WorldItem.{WorldItem}
use Rattle.wac_wit_validation.specs.Checking.{IsSettingAt}
use Rattle.wac_wit_validation_types.specs.Exports.{MarksExports}
use Rattle.wac_wit_validation_types.specs.Denoted.{Setting}
use Rattle.wac_wit_validation_types.specs.Reading.{Renames}
use Rattle.wac_wit_validation.specs.WorldChecking.{OffersItem, RepresentsItem}
use Rattle.wac_wit_validation_types.proofs.MarkFacts.{AllBelow}
use Rattle.wac_wit_validation.proofs.validator.Validator.are_own_types.Given as goal

abbrev pub invariant-loop-item : goal.invariant-loop-item
invariant-loop-item l = record {
  marks : l.names.types.now ≡ l.self.types.now → (s : Setting) → IsSettingAt l.self l.layer.place.scope s → Renames l.names s.renames → ((b : Bor WorldItem) → Contains l.item-items b → OffersItem s b.now) → MarksExports s l.names l.initial.progress l.progress;
  covers : AllBelow (λ (b : Bor WorldItem). RepresentsItem l.self l.names b.now) l.item-items l.item-index;
}
