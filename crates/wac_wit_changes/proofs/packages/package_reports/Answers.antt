use Rattle.std.proofs.Common.{subst}
use Rattle.std.specs.List.{AllZip}
use Rattle.std.proofs.lemmas.List.{take_all}
use Rattle.wac_wit_changes.specs.Comparing.{IsReportOn}
use Rattle.wac_wit_changes.specs.Sides.{olds_of}
use Rattle.wac_wit_changes.proofs.Reports.{reports_more}
use Rattle.wac_wit_changes.proofs.packages.package_reports.Goals as goal

pub loop-of-preserved : goal.loop-of-preserved
loop-of-preserved c =
    reports_more (IsReportOn c.args.pair.now.types.now c.args.new.now.packages.items) c.args.moves.now c.loop-of.of-index c.of-item.result c.loop-of.reports.items c.push.new.self.items c.in_ok-package_report.field-0
    c.loop-of.invariant c.in_ok-package_report.ensures c.in_ok-push.ensures.items c.loop-of-test.true c.of-item.is

pub returns : goal.returns
returns c =
    subst (λ ms. AllZip (IsReportOn c.args.pair.now.types.now c.args.new.now.packages.items) (olds_of ms) c.loop-of.reports.items) (take_all c.loop-of.of-index c.args.moves.now c.loop-of-test.false) c.loop-of.invariant
