use Rattle.wac_component.specs.Content.{named}
use Rattle.wac_component.specs.Key.{AllStand, named_keys, item_keys}
use Rattle.wac_script_entries.proofs.contents.named_items.Given as goal

abbrev pub invariant-loop-member : goal.invariant-loop-member
invariant-loop-member l = AllStand l.types (named_keys item_keys (named (λ k. k) l.kinds.entries))
