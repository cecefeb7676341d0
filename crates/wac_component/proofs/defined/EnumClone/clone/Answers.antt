use Rattle.wac_component.proofs.CloneLemmas.{texts-clones}
use Rattle.wac_component.proofs.defined.EnumClone.clone.Goals as goal

pub returns : goal.returns
returns c = record { cases = texts-clones c.args.self.now.0.keys c.in_ok-cases.cases.keys c.in_ok-cases.ensures.cases }
