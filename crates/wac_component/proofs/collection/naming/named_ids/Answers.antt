use Rattle.std.proofs.Common.{refl}
use Rattle.wac_component.specs.Parts.{places}
use Rattle.wac_component.proofs.PartLemmas.{all_keys}
use Rattle.wac_component.proofs.collection.naming.named_ids.Goals as goal

pub returns : goal.returns
returns c = rw (all_keys (places c.args.all.now.0) (places c.args.all.now.1) (places c.args.all.now.2), c.in_ok-push_parts-3.ensures, c.in_ok-push_parts-2.ensures, c.in_ok-push_parts.ensures, c.new-ids.ensures.items) refl
