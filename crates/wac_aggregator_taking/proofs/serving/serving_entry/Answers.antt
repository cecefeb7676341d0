use Rattle.wac_aggregator_taking.proofs.serving.serving_entry.Goals as goal

pub serves-requires-clause-own : goal.serves-requires-clause-own
serves-requires-clause-own c = c.requires.own c.in-Some.own c.in-Some.is
