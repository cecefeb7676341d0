use Rattle.wac_component.specs.Content.{named, use_content}
use Rattle.wac_component.specs.Key.{AllStand, named_keys, use_keys}
use Rattle.wac_script_entries.proofs.contents.named_uses.Given as goal

abbrev pub invariant-loop-member : goal.invariant-loop-member
invariant-loop-member l = AllStand l.types (named_keys use_keys (named use_content l.found.entries))
