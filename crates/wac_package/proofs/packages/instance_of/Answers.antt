use Rattle.std.proofs.Common.{refl}
use Rattle.wac_component.proofs.CloneLemmas.{named-clones}
use Rattle.wac_package.proofs.packages.instance_of.Goals as goal

pub returns : goal.returns
returns c =
    let exports = named-clones (λ k. k) (λ k l same. same) c.args.world.now.exports c.in_ok-clone.field-0 c.in_ok-clone.ensures.cases in
    rw (exports, c.new.ensures.empty) refl
