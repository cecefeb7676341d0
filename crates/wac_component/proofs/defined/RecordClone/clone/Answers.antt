use Rattle.wac_component.proofs.CloneLemmas.{named-clones}
use Rattle.wac_component.proofs.defined.RecordClone.clone.Goals as goal

pub returns : goal.returns
returns c = record { cases = named-clones (λ t. t) (λ t u same. same) c.args.self.now.fields c.in_ok-fields.fields c.in_ok-fields.ensures.cases }
