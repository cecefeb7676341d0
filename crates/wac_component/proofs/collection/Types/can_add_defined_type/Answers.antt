use Rattle.std.proofs.Common.{◌∙◌}
use Rattle.wac_component.specs.Content.{defined_content}
use Rattle.wac_component.specs.Parts.{places}
use Rattle.wac_component.proofs.PartLemmas.{alone_keys, defined_places}
use Rattle.wac_component.proofs.collection.Types.can_add_defined_type.Goals as goal

pub returns : goal.returns
returns c = rw (← (alone_keys (places c.parts.result) ∙ defined_places (places c.parts.result) (defined_content c.args.ty.now) c.parts.ensures)) c.holds.ensures
