use Rattle.wac_component.specs.Content.{use_content}
use Rattle.wac_component.proofs.DistinctNames.{AreDistinct-named}
use Rattle.wac_component.proofs.laws.names_in_a_world_are_distinct.Goals as goal

pub returns : goal.returns
returns c = (
  AreDistinct-named use_content c.args.world.now.uses.entries c.len.ensures.unique,
  AreDistinct-named (λ k. k) c.args.world.now.imports.entries c.len-2.ensures.unique,
  AreDistinct-named (λ k. k) c.args.world.now.exports.entries c.len-3.ensures.unique,
)
