use Rattle.wac_component.proofs.DistinctNames.{AreDistinct-named}
use Rattle.wac_component.proofs.laws.names_in_a_function_are_distinct.Goals as goal

pub returns : goal.returns
returns c = AreDistinct-named (λ v. v) c.args.func.now.params.entries c.len.ensures.unique
