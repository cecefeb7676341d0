use Rattle.std.proofs.Common.{arith, sym, subst, take}
use Rattle.std.proofs.lemmas.List.{length-take-le}
use Rattle.wac_targets.specs.Named.{text_keys}
use Rattle.wac_wit_changes.specs.Sides.{KnowsPackages}
use Rattle.wac_wit_changes.proofs.Counterparts.{knows_none}
use Rattle.wac_wit_changes.proofs.Reports.{take-next}
use Rattle.wac_wit_changes.proofs.tracks.NewPackages.new.Goals as goal

pub loop-index-init : goal.loop-index-init
loop-index-init c = knows_none (record { names = c.new.result; versions = c.new-2.result }) (c.new-2.ensures.empty text_keys) c.new.ensures.empty

pub loop-index-preserved : goal.loop-index-preserved
loop-index-preserved c =
    let packages = c.args.packages.now in
    let i = c.loop-index.index in
    let package_at = c.index-packages-index.result in
    subst (λ ps. KnowsPackages ps c.add.new.self) (sym (take-next packages i package_at c.loop-index-test.true c.index-packages-index.is))
    (c.in_ok-add.ensures (take i packages) c.loop-index.invariant (sym (length-take-le i packages (omega arith))))
