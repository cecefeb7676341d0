use Rattle.wac_wit_refusals_sites.proofs.TypeFacts.{ListedBelow}
use Rattle.wac_wit_refusals_sites.specs.declared.type_items.PlacedType.{PlacedType}
use Rattle.wac_wit_syntax.specs.declared.tree.InterfaceItem.TheVariants as inside
use Rattle.wac_wit_refusals_sites.proofs.type_items.interface_types.Given as goal

abbrev pub invariant-loop-index : goal.invariant-loop-index
invariant-loop-index l = ListedBelow inside.Type (λ (p : PlacedType). p.item) (λ (p : PlacedType). p.ty.now) l.items l.index l.types.items
