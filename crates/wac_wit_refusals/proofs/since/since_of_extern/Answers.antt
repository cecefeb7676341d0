use Rattle.std.proofs.Common.{List, subst}
use Rattle.std.proofs.lemmas.Option.{IfSome_then}
use Rattle.wac_wit_refusals.specs.Attributes.{SinceInside, of_inline}
use Rattle.wac_wit_syntax.specs.declared.tree.InterfaceItem.{InterfaceItem}
use Rattle.wac_wit_refusals.proofs.since.since_of_extern.Goals as goal

pub returns-in-Inline : goal.returns-in-Inline
returns-in-Inline c = IfSome_then c.since_inside.result c.since_inside.ensures (λ since h. of_inline c.in-Inline.field-0 c.in-Inline.items c.in-Inline.is (subst (λ (is : List InterfaceItem). SinceInside is since.now c.args.span) c.deref.ensures.value h))
