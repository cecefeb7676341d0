use Rattle.wac_composition.proofs.Handing.{middleware_found, handler_found, client_found}
use Rattle.wac_composition.proofs.merging.remaining.Goals as goal

pub push_remaining-requires-clause-component : goal.push_remaining-requires-clause-component
push_remaining-requires-clause-component c = middleware_found c.args.graph.now

pub push_remaining-requires-2-clause-component : goal.push_remaining-requires-2-clause-component
push_remaining-requires-2-clause-component c = handler_found c.args.graph.now

pub push_remaining-requires-3-clause-component : goal.push_remaining-requires-3-clause-component
push_remaining-requires-3-clause-component c = client_found c.args.graph.now
