use Rattle.std.specs.Borrow.{Bor}
use Rattle.std.specs.Prelude.{Contains}
use Rattle.wac_wit_syntax.specs.declared.tree.WorldItem.{WorldItem}
use Rattle.wac_wit_validation_types.proofs.MarkFacts.{AllBelow}
use Rattle.wac_wit_validation.specs.WorldChecking.{KeepsSide}
use Rattle.wac_wit_validation.specs.WorldClauses.{CoversItem}
use Rattle.wac_wit_validation.proofs.validator.Validator.mark_named.Given as goal

abbrev pub invariant-loop-item : goal.invariant-loop-item
invariant-loop-item l = record {
  marks : KeepsSide l.self l.scope l.side (λ of x. (b : Bor WorldItem) → Contains l.items b → Contains x.decl.items.items b.now) l.initial.marks l.marks;
  covers : AllBelow (λ (b : Bor WorldItem). CoversItem l.self l.side b.now) l.items l.item-index;
}
