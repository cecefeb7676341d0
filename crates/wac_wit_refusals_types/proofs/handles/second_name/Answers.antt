use Rattle.std.proofs.Common.{◌∙◌, ap}
use Rattle.wac_wit_syntax.specs.declared.tree.TypeDef.TheVariants.{Alias}
use Rattle.wac_wit_syntax.specs.declared.tree.TypeExpr.{TypeExpr}
use Rattle.wac_wit_refusals_sites.proofs.TypeFacts.{if_some_then}
use Rattle.wac_wit_refusals_types.proofs.handles.second_name.Goals as goal

pub returns-in-Alias : goal.returns-in-Alias
returns-in-Alias c = if_some_then _ _ c.plain_type_name.result c.plain_type_name.ensures (λ id h. c.in-Alias.is ∙ ap (λ (e : TypeExpr). Alias e) h)
