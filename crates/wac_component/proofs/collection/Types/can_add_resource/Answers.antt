use Rattle.std.proofs.Common.{◌∙◌}
use Rattle.wac_component.specs.Parts.{places}
use Rattle.wac_component.proofs.PartLemmas.{alone_keys}
use Rattle.wac_component.proofs.collection.Types.can_add_resource.Goals as goal

pub returns : goal.returns
returns c = rw (← (alone_keys (places c.parts.result) ∙ c.parts.ensures)) c.holds.ensures
