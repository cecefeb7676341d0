use Rattle.wac_wit_refusals_sites.proofs.TypeFacts.{among_read}
use Rattle.wac_wit_refusals_types.proofs.names_twice.is_method_again.Goals as goal

pub returns-then-are_methods_twice : goal.returns-then-are_methods_twice
returns-then-are_methods_twice c is = record { other = c.other-item.result; among = among_read c.args.methods.now c.loop-other.other-index c.other-item.result c.loop-other-test.true c.other-item.is; twice = c.are_methods_twice.ensures c.if-are_methods_twice.true }
