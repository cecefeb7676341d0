use Rattle.std.proofs.Common.{subst, IfOk}
use Rattle.std.specs.List.{AllZip}
use Rattle.wac_wit_changes.specs.Comparing.{IsReportOn}
use Rattle.wac_wit_changes.specs.Sides.{olds_of}
use Rattle.wac_wit_changes.proofs.packages.compared_with.Goals as goal

pub returns : goal.returns
returns c =
    subst (λ t. IfOk c.package_reports.result (λ rs. AllZip (IsReportOn t c.args.new.0.now.packages.items) (olds_of c.args.moves.now) rs.items)) c.pair_of.ensures c.package_reports.ensures
