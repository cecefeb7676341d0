use Rattle.wac_wit_refusals_sites.proofs.TypeFacts.{ListedBelow}
use Rattle.wac_wit_refusals_sites.specs.declared.type_items.PlacedType.{PlacedType}
use Rattle.wac_wit_syntax.specs.declared.tree.WorldItem.TheVariants as world_item
use Rattle.wac_wit_refusals_sites.proofs.type_items.world_types.Given as goal

abbrev pub invariant-loop-index : goal.invariant-loop-index
invariant-loop-index l = ListedBelow world_item.Type (λ (p : PlacedType). p.item) (λ (p : PlacedType). p.ty.now) l.items l.index l.types.items
