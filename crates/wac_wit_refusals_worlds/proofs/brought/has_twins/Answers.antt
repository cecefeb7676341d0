use Rattle.wac_wit_refusals_sites.proofs.TypeFacts.{among_read}
use Rattle.wac_wit_refusals_worlds.proofs.brought.has_twins.Goals as goal

pub returns-then-is_twin_of : goal.returns-then-is_twin_of
returns-then-is_twin_of c is = c.is_twin_of.ensures c.if-is_twin_of.true (among_read c.args.names.now c.loop-number.number c.index-names-number.result c.loop-number-test.true c.index-names-number.is)
