use Rattle.std.proofs.Common.{◌≤◌, length}
use Rattle.wac_wit_validation_types.specs.Exports.{named_items}
use Rattle.wac_wit_validation.specs.WorldClauses.{CoversType, KeepsOwn}
use Rattle.wac_wit_validation_types.proofs.MarkFacts.{AllBelow}
use Rattle.wac_wit_validation.proofs.worlds.mark_own.Given as goal

abbrev pub invariant-loop-place : goal.invariant-loop-place
invariant-loop-place l = record {
  within : l.place ≤ length l.side.names.items.now.entries;
  marks : KeepsOwn l.side l.initial.marks l.marks;
  covers : AllBelow (λ e. CoversType l.side e.0 e.1) (named_items l.side.names) l.place;
}
