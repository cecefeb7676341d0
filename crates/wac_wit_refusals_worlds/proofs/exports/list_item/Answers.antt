use Rattle.std.proofs.Common.{◌≡◌, subst}
use Rattle.std.proofs.lemmas.Result.{IfOk-weaker}
use Rattle.indexmap.specs.IndexMap.{get_by_text}
use Rattle.wac_wit_refusals_worlds.proofs.NeededFacts.{KeepsListed-same}
use Rattle.wac_wit_refusals_worlds.specs.NeededSteps.{IsExternListed}
use Rattle.wac_wit_scopes.specs.Scopes.{scope_syntax}
use Rattle.wac_wit_syntax.specs.declared.tree.ExternItem.{ExternItem}
use Rattle.wac_wit_refusals_worlds.proofs.exports.list_item.Goals as goal

pub returns-in-Export-clause-lists : goal.returns-in-Export-clause-lists
returns-in-Export-clause-lists c = IfOk-weaker c.list_extern.result _ _ (λ b told is of judges x same.
    let one : c.in-Export.it ≡ x = cc in
    subst (λ (y : ExternItem). IsExternListed of (scope_syntax c.args.scope.now) (get_by_text c.list_extern.new.listed) y) one (told is of judges)) c.list_extern.ensures.lists

pub returns-in_default-clause-keeps : goal.returns-in_default-clause-keeps
returns-in_default-clause-keeps c = KeepsListed-same (get_by_text c.args.listed.now)

pub returns-in_default-clause-lists : goal.returns-in_default-clause-lists
returns-in_default-clause-lists c = λ is of judges x same. absurd (c.in_default.not-Export x same)
