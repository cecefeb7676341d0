use Rattle.std.proofs.Common.{◌≤◌, length}
use Rattle.wac_component.specs.Content.{named}
use Rattle.wac_wit_validation.proofs.WorldFacts.{FoundItemsBelow}
use Rattle.wac_wit_validation.specs.WorldClauses.{KeepsInterfacesOf}
use Rattle.wac_wit_validation.proofs.validator.Validator.mark_interfaces_of.Given as goal

abbrev pub invariant-loop-index : goal.invariant-loop-index
invariant-loop-index l = record {
  within : l.index ≤ length l.others.entries;
  marks : KeepsInterfacesOf l.self (named (λ k. k) l.externs.entries) (named (λ k. k) l.others.entries) l.found l.initial.marks l.marks;
  covers : FoundItemsBelow (named (λ k. k) l.externs.entries) (named (λ k. k) l.others.entries) l.index;
}
