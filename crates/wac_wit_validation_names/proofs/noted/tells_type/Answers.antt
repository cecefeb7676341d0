use Rattle.std.proofs.Common.{ap, sym, ◌∙◌}
use Rattle.wac_wit_syntax.specs.declared.tree.TypeDef.TheVariants as def
use Rattle.wac_wit_syntax.specs.declared.tree.TypeExpr.TheVariants as ty
use Rattle.wac_wit_validation_names.proofs.NotedFacts.{alias_name}
use Rattle.wac_wit_validation_names.proofs.noted.tells_type.Goals as goal

pub returns-in-Alias : goal.returns-in-Alias
returns-in-Alias c = λ is rss renames. record {
  another = λ id means. c.tells_alias.ensures.another is id (alias_name c.in-Alias.ty id (sym c.in-Alias.is ∙ means)) rss renames;
  own = λ isnt. c.tells_alias.ensures.own is (λ id e. isnt id (c.in-Alias.is ∙ ap def.Alias e)) rss renames;
}

pub returns-in_default : goal.returns-in_default
returns-in_default c = λ is rss renames. record {
  another = λ id means. absurd (c.in_default.not-Alias (ty.Name id) means);
  own = λ isnt. c.is_own.ensures is rss renames;
}
