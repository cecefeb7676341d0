use Rattle.std.proofs.Common.{List, inr, subst}
use Rattle.std.proofs.lemmas.Option.{IfSome_then}
use Rattle.wac_wit_refusals.specs.Attributes.{SinceInWorld}
use Rattle.wac_wit_syntax.specs.declared.tree.WorldItem.{WorldItem}
use Rattle.wac_wit_refusals.proofs.since.since_of_world.Goals as goal

pub returns-in-None : goal.returns-in-None
returns-in-None c = IfSome_then c.since_in_world.result c.since_in_world.ensures (λ since h. inr (subst (λ (is : List WorldItem). SinceInWorld is since.now c.args.span) c.deref.ensures.value h))
