use Rattle.wac_component.specs.Content.{named, use_content}
use Rattle.wac_wit_validation_names.specs.Noted.{HasOwner}
use Rattle.wac_wit_validation_types.proofs.MarkFacts.{AllBelow}
use Rattle.wac_wit_validation_names.proofs.noted.have_owners.Given as goal

abbrev pub invariant-loop-place : goal.invariant-loop-place
invariant-loop-place l = AllBelow (λ e. HasOwner l.types (named use_content l.uses.entries) e.0 e.1) (named (λ k. k) l.items.entries) l.place
