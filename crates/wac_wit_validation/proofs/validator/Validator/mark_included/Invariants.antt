use Rattle.std.proofs.Common.{◌≡◌}
use Rattle.wac_component.specs.Content.{world_content}
use Rattle.wac_wit_validation_types.specs.Placed.{PlacedWorld}
use Rattle.wac_wit_syntax.specs.declared.tree.WorldItem.{WorldItem}
use Rattle.wac_wit_validation_types.proofs.MarkFacts.{AllBelow}
use Rattle.wac_wit_scopes.specs.WitSources.{ScopeSyntax, WitSources}
use Rattle.wac_wit_validation.specs.WorldChecking.{HasInterfacesOf, IsIndexedScope, KeepsBoth}
use Rattle.wac_wit_validation.proofs.validator.Validator.mark_included.Given as goal

abbrev pub invariant-loop-item : goal.invariant-loop-item
invariant-loop-item l = record {
  marks : (of : WitSources) (w : PlacedWorld) → IsIndexedScope l.self l.scope of w.scope → w.decl.items.items ≡ l.items → KeepsBoth of l.self w (world_content l.entry) l.initial.marks l.marks;
  covers : (of : WitSources) (w : ScopeSyntax) → IsIndexedScope l.self l.scope of w → AllBelow (λ (x : WorldItem). HasInterfacesOf of w (world_content l.entry) x) l.items l.item-index;
}
