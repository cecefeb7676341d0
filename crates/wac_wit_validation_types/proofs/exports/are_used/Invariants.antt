use Rattle.std.proofs.Common.{◌≡◌, Contains}
use Rattle.wac_wit_syntax.specs.declared.tree.Rename.{Rename}
use Rattle.wac_wit_validation_types.specs.Exports.{Brings, HasTypeItem, MarksExports, named_items}
use Rattle.wac_wit_validation_types.specs.Denoted.{Setting}
use Rattle.wac_wit_validation_types.specs.Reading.{StandForTypes}
use Rattle.wac_wit_scopes.specs.WitSources.{given_name}
use Rattle.wac_wit_validation_types.proofs.MarkFacts.{AllBelow}
use Rattle.wac_wit_validation_types.proofs.exports.are_used.Given as goal

abbrev pub invariant-loop-rename : goal.invariant-loop-rename
invariant-loop-rename l = record {
  marks : l.names.types.now ≡ l.from.types.now → (s f : Setting) → StandForTypes l.from f → ((r : Rename) → Contains l.renames r → Brings s f r) → MarksExports s l.names l.initial.progress l.progress;
  covers : AllBelow (λ (r : Rename). HasTypeItem (named_items l.names) (given_name r.name r.alias)) l.renames l.rename-index;
}
