use Rattle.wac_wit_refusals_sites.proofs.Walks.{among_at}
use Rattle.wac_wit_refusals.proofs.used.has_type.Goals as goal

pub returns-then-gives_type : goal.returns-then-gives_type
returns-then-gives_type c = λ is. (c.item-item.result, among_at c.args.items.now c.loop-item.item-index c.item-item.result c.loop-item-test.true c.item-item.is, c.gives_type.ensures.0 c.if-gives_type.true)
