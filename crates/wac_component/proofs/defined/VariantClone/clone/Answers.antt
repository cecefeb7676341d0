use Rattle.wac_component.proofs.CloneLemmas.{named-clones, option-clone}
use Rattle.wac_component.proofs.defined.VariantClone.clone.Goals as goal

pub returns : goal.returns
returns c = record { cases = named-clones (λ t. t) (λ o r same. option-clone o r same) c.args.self.now.cases c.in_ok-cases.cases c.in_ok-cases.ensures.cases }
