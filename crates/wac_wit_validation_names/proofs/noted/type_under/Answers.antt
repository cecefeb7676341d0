use Rattle.std.proofs.Common.{◌∙◌, Some, ap}
use Rattle.wac_component.specs.declared.items.ItemKind.{ItemKind}
use Rattle.wac_wit_validation_names.proofs.NotedFacts.{found_entry, got}
use Rattle.wac_wit_validation_names.proofs.noted.type_under.Goals as goal

pub returns-in-Type : goal.returns-in-Type
returns-in-Type c = found_entry (λ k. k) c.args.exports.now.entries c.args.name.now _ (got c.get.result c.in_ok-ty.field-0 _ c.get.ensures.value c.in_ok-ty.was ∙ ap (λ (k : ItemKind). Some k) c.in-Type.is)
