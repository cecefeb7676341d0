use Rattle.std.proofs.Common.{◌≡◌}
use Rattle.wac_component.specs.Tree.{root_name}
use Rattle.wac_wit_syntax.specs.declared.tree.Method.{Method}
use Rattle.wac_wit_validation_types.specs.Exports.{HasMethodItem, MarksExports, OffersMethods, named_items}
use Rattle.wac_wit_validation.specs.Checking.{Knows}
use Rattle.wac_wit_validation_types.specs.Denoted.{Setting}
use Rattle.wac_wit_scopes.specs.WitSources.{WitSources, ident_text}
use Rattle.wac_wit_validation_types.proofs.MarkFacts.{AllBelow}
use Rattle.wac_wit_validation.proofs.validator.Validator.are_resource_methods.Given as goal

abbrev pub invariant-loop-method : goal.invariant-loop-method
invariant-loop-method l = record {
  marks : root_name l.names.types.now l.id ≡ ident_text l.name → (s : Setting) → Knows s.sources l.self → OffersMethods s (ident_text l.name) l.methods → MarksExports s l.names l.initial.progress l.progress;
  covers : (of : WitSources) → Knows of l.self → AllBelow (λ (m : Method). HasMethodItem of (named_items l.names) (ident_text l.name) m) l.methods l.method-index;
}
