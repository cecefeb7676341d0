use Rattle.std.proofs.Common.{take}
use Rattle.std.specs.List.{AllZip}
use Rattle.wac_wit_changes.specs.Comparing.{IsReportOn}
use Rattle.wac_wit_changes.specs.Sides.{olds_of}
use Rattle.wac_wit_changes.proofs.packages.package_reports.Given as goal

abbrev pub invariant-loop-of : goal.invariant-loop-of
invariant-loop-of l = AllZip (IsReportOn l.pair.types.now l.new.packages.items) (olds_of (take l.of-index l.moves)) l.reports.items
