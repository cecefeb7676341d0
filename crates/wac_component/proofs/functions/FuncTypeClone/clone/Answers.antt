use Rattle.std.proofs.Common.{refl}
use Rattle.wac_component.proofs.CloneLemmas.{named-clones}
use Rattle.wac_component.proofs.functions.FuncTypeClone.clone.Goals as goal

pub returns : goal.returns
returns c = record { cases = rw (named-clones (λ v. v) (λ v w same. same) c.args.self.now.params c.in_ok-clone.field-0 c.in_ok-clone.ensures.cases) refl }
