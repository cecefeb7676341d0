use Rattle.wac_wit_refusals_sites.proofs.TypeFacts.{among_read}
use Rattle.wac_wit_refusals_types.proofs.taken_names.is_taken_again.Goals as goal

pub returns-then-are_twice : goal.returns-then-are_twice
returns-then-are_twice c is = record { other = c.other-item.result; among = among_read c.args.names.now c.loop-other.other-index c.other-item.result c.loop-other-test.true c.other-item.is; twice = c.are_twice.ensures c.if-are_twice.true }
