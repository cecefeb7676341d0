use Rattle.std.proofs.Common.{◌≡◌, ◌∙◌, ap}
use Rattle.std.proofs.lemmas.Result.{on_ok_weaker}
use Rattle.wac_wit_refusals_types.specs.BorrowSteps.{IsAliased}
use Rattle.wac_wit_syntax.specs.declared.tree.TypeDef.TheVariants as def
use Rattle.wac_wit_syntax.specs.declared.tree.TypeExpr.{TypeExpr}
use Rattle.wac_wit_refusals_types.proofs.BorrowFacts.{put_weaker}
use Rattle.wac_wit_refusals_types.proofs.type_sites.push_aliased.Goals as goal

pub returns-in-Alias : goal.returns-in-Alias
returns-in-Alias c = on_ok_weaker c.push_new.result (put_weaker _ _ c.args.site.now.placed (λ (e : TypeExpr). c.in-Alias.ty ≡ e) (IsAliased c.args.site.now) (λ e is. c.in-Alias.is ∙ ap def.Alias is)) c.push_new.ensures
