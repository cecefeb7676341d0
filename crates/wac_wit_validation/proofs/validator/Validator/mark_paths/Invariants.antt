use Rattle.std.proofs.Common.{◌≡◌}
use Rattle.wac_component.specs.Content.{named}
use Rattle.wac_wit_syntax.specs.declared.tree.WorldItem.{WorldItem}
use Rattle.wac_wit_validation_types.proofs.MarkFacts.{AllBelow}
use Rattle.wac_wit_validation.specs.WorldChecking.{KeepsPaths}
use Rattle.wac_wit_validation.specs.WorldClauses.{CoversPathItem}
use Rattle.wac_wit_validation.proofs.validator.Validator.mark_paths.Given as goal

abbrev pub invariant-loop-item : goal.invariant-loop-item
invariant-loop-item l = record {
  marks : KeepsPaths l.self l.scope l.kind (named (λ k. k) l.externs.entries) (λ of w. w.decl.items.items ≡ l.items) l.initial.marks l.marks;
  covers : AllBelow (λ (x : WorldItem). CoversPathItem l.self l.scope l.kind (named (λ k. k) l.externs.entries) x) l.items l.item-index;
}
