use Rattle.wac_component.specs.Content.{use_content}
use Rattle.wac_component.proofs.DistinctNames.{AreDistinct-named}
use Rattle.wac_component.proofs.laws.names_in_an_interface_are_distinct.Goals as goal

pub returns : goal.returns
returns c = (
  AreDistinct-named use_content c.args.interface.now.uses.entries c.len.ensures.unique,
  AreDistinct-named (λ k. k) c.args.interface.now.exports.entries c.len-2.ensures.unique,
)
