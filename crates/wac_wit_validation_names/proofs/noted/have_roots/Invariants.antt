use Rattle.wac_component.specs.Content.{named, use_content}
use Rattle.wac_wit_validation_names.specs.Noted.{HasUseRoot}
use Rattle.wac_wit_validation_types.proofs.MarkFacts.{AllBelow}
use Rattle.wac_wit_validation_names.proofs.noted.have_roots.Given as goal

abbrev pub invariant-loop-place : goal.invariant-loop-place
invariant-loop-place l = AllBelow (λ e. HasUseRoot l.types (named (λ k. k) l.items.entries) e.0 e.1) (named use_content l.uses.entries) l.place
