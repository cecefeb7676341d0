use Rattle.wac_component.specs.Content.{named}
use Rattle.wac_component.specs.Key.{AllStand, item_keys, named_keys}
use Rattle.wac_vectors_program.proofs.sides.under_names.Given as goal

abbrev pub invariant-loop-name : goal.invariant-loop-name
invariant-loop-name l = AllStand l.types (named_keys item_keys (named (λ k. k) l.externs.entries))
