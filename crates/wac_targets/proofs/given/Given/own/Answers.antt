use Rattle.std.proofs.Common.{◌∙◌}
use Rattle.wac_targets.proofs.Distinct.{value_at-named}
use Rattle.wac_targets.proofs.given.Given.own.Goals as goal

pub returns : goal.returns
returns c = c.get.ensures.value ∙ value_at-named c.args.self.now.own.now.entries c.args.name.now
