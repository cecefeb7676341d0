use Rattle.wac_wit_refusals_sites.proofs.TypeFacts.{ListedBelow}
use Rattle.wac_wit_refusals_sites.specs.declared.type_items.PlacedUse.{PlacedUse}
use Rattle.wac_wit_syntax.specs.declared.tree.WorldItem.TheVariants as world_item
use Rattle.wac_wit_refusals_sites.proofs.type_items.world_uses.Given as goal

abbrev pub invariant-loop-index : goal.invariant-loop-index
invariant-loop-index l = ListedBelow world_item.Use (λ (p : PlacedUse). p.item) (λ (p : PlacedUse). p.used.now) l.items l.index l.uses.items
