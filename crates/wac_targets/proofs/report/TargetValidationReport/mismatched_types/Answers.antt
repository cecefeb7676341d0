use Rattle.std.proofs.Common.{string_bytes}
use Rattle.wac_targets.proofs.Orders.{keys-ascend}
use Rattle.wac_targets.proofs.report.TargetValidationReport.mismatched_types.Goals as goal

pub returns-clause-order : goal.returns-clause-order
returns-clause-order c = keys-ascend string_bytes c.args.self.now.mismatched_types.entries c.iter.ensures.ordered
