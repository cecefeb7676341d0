use Rattle.std.proofs.Common.{string_bytes}
use Rattle.wac_targets.proofs.Orders.{texts-ascend}
use Rattle.wac_targets.proofs.report.TargetValidationReport.imports_not_in_target.Goals as goal

pub returns-clause-order : goal.returns-clause-order
returns-clause-order c = texts-ascend string_bytes c.args.self.now.imports_not_in_target.keys c.iter.ensures.ordered
