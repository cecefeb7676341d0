use Rattle.std.proofs.Common.{rules, ap}
use Rattle.std.specs.Prelude.{option_map}
use Rattle.wac_component.specs.Aliases.{itself, from}
use Rattle.wac_component.specs.Content.{alias_content, resource_content}
use Rattle.wac_component.proofs.collection.Types.resolve_resource.Goals as goal

pub loop-alias-preserved : goal.loop-alias-preserved
loop-alias-preserved c = (search rules, search rules, λ r reached. c.loop-alias.invariant.2 r (from (resource_content c.index.result.now) (alias_content c.in-Some.alias) c.index.ensures.entry (ap (option_map alias_content) c.in-Some.is) reached))

pub returns-clause-reached : goal.returns-clause-reached
returns-clause-reached c = c.loop-alias.invariant.2 c.loop-alias.at itself
