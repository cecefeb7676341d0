use Rattle.std.proofs.Common.{List, inr, subst}
use Rattle.std.proofs.lemmas.Option.{IfSome_then}
use Rattle.wac_wit_refusals.specs.Attributes.{SinceInside}
use Rattle.wac_wit_syntax.specs.declared.tree.InterfaceItem.{InterfaceItem}
use Rattle.wac_wit_refusals.proofs.since.since_of_interface.Goals as goal

pub returns-in-None : goal.returns-in-None
returns-in-None c = IfSome_then c.since_inside.result c.since_inside.ensures (λ since h. inr (subst (λ (is : List InterfaceItem). SinceInside is since.now c.args.span) c.deref.ensures.value h))
