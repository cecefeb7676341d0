use Rattle.std.proofs.Common.{◌≡◌, subst}
use Rattle.std.proofs.lemmas.Result.{IfOk-weaker}
use Rattle.indexmap.specs.IndexMap.{get_by_text}
use Rattle.wac_wit_refusals_sites.proofs.Walks.{not_so}
use Rattle.wac_wit_refusals_worlds.proofs.NeededFacts.{KeepsListed-same}
use Rattle.wac_wit_refusals_worlds.specs.NeededSteps.{IsListed}
use Rattle.wac_wit_scopes.specs.Scopes.{scope_syntax}
use Rattle.wac_wit_syntax.specs.declared.tree.Path.{Path}
use Rattle.wac_wit_refusals_worlds.proofs.exports.list_extern.Goals as goal

pub returns-then-not-is_there-clause-keeps : goal.returns-then-not-is_there-clause-keeps
returns-then-not-is_there-clause-keeps c = KeepsListed-same (get_by_text c.args.listed.now)

pub returns-then-not-is_there-clause-lists : goal.returns-then-not-is_there-clause-lists
returns-then-not-is_there-clause-lists c = λ is of judges p there what. absurd (not_so _ c.is_there.result c.if-not-is_there.true (c.is_there.ensures of judges) there)

pub returns-in-Path-clause-lists : goal.returns-in-Path-clause-lists
returns-in-Path-clause-lists c = IfOk-weaker c.list_path.result _ _ (λ b told is of judges p there what.
    let one : c.in-Path.path ≡ p = cc in
    subst (λ (q : Path). IsListed of (scope_syntax c.args.scope.now) (get_by_text c.list_path.new.listed) q) one (told is of judges)) c.list_path.ensures.lists

pub returns-in_default-clause-keeps : goal.returns-in_default-clause-keeps
returns-in_default-clause-keeps c = KeepsListed-same (get_by_text c.args.listed.now)

pub returns-in_default-clause-lists : goal.returns-in_default-clause-lists
returns-in_default-clause-lists c = λ is of judges p there what. absurd (c.in_default.not-Path p what)
