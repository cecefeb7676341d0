use Rattle.std.proofs.Common.{◌≡◌, subst}
use Rattle.wac_wit_scopes.specs.WitSources.{IsEnabled}
use Rattle.wac_wit_syntax.specs.declared.tree.IncludeItem.{IncludeItem}
use Rattle.wac_wit_refusals_sites.proofs.Walks.{not_so}
use Rattle.wac_wit_refusals_worlds.proofs.worlds.include_there.Goals as goal

pub returns-then-is_there-clause-some : goal.returns-then-is_there-clause-some
returns-then-is_there-clause-some c of knows = record { is = c.in-Include.is; there = (c.is_there.ensures of knows).0 c.if-is_there.true }

pub returns-else-is_there-clause-none : goal.returns-else-is_there-clause-none
returns-else-is_there-clause-none c none of knows i is enabled =
    let same : i ≡ c.in-Include.it = cc in
    not_so _ c.is_there.result c.if-is_there.false (c.is_there.ensures of knows) (subst (λ (x : IncludeItem). IsEnabled of x.gates) same enabled)

pub returns-in_default-clause-none : goal.returns-in_default-clause-none
returns-in_default-clause-none c none of knows i is enabled = c.in_default.not-Include i is
