use Rattle.std.proofs.Common.{rules, ap, ◌∙◌, Some}
use Rattle.wac_component.specs.Aliases.{same, means}
use Rattle.wac_component.specs.Content.{defined_content}
use Rattle.wac_component.proofs.collection.Types.resolve_value_type.Goals as goal

pub loop-at-preserved : goal.loop-at-preserved
loop-at-preserved c = (search rules, search rules, search rules, λ v reached. c.loop-at.invariant.3 v (rw c.in-Defined.is (means c.in-Defined.id c.in-Alias.of (c.index.ensures.entry ∙ ap (λ d. Some (defined_content d)) c.in-Alias.is) reached)))

pub returns-in_default : goal.returns-in_default
returns-in_default c = record { tree = c.loop-at.invariant.0; standing = c.loop-at.invariant.1; lower = c.loop-at.invariant.2; resolved = search rules; reached = c.loop-at.invariant.3 c.loop-at.at same }

pub returns-in_default-index : goal.returns-in_default-index
returns-in_default-index c = record { tree = search rules; standing = search rules; lower = search rules; resolved = search rules; reached = rw c.in-Defined.is at (c.loop-at.invariant.3 c.loop-at.at same) }
