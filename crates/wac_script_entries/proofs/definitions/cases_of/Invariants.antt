use Rattle.wac_component.specs.Content.{named}
use Rattle.wac_component.specs.Key.{AllStand, named_keys, optional_keys, value_keys}
use Rattle.wac_script_entries.proofs.definitions.cases_of.Given as goal

abbrev pub invariant-loop-word : goal.invariant-loop-word
invariant-loop-word l = AllStand l.types (named_keys (optional_keys value_keys) (named (λ t. t) l.cases.entries))
