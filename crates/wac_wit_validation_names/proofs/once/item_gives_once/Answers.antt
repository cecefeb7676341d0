use Rattle.std.proofs.Common.{◌≡◌, ◌∙◌, sym, subst}
use Rattle.std.proofs.lemmas.Result.{IfOk-weaker}
use Rattle.wac_wit_syntax.specs.declared.tree.InterfaceDecl.{InterfaceDecl}
use Rattle.wac_wit_validation_names.specs.Once.{InsideGivesOnce}
use Rattle.wac_wit_scopes.specs.WitSources.{IsEnabled}
use Rattle.wac_wit_validation_names.proofs.once.item_gives_once.Goals as goal

pub returns-in-Interface : goal.returns-in-Interface
returns-in-Interface c = IfOk-weaker c.interface_gives_once.result _ _ (λ b h is of on d at.
    let same : c.in-Interface.decl ≡ d = let both = sym c.in-Interface.is ∙ at in cc in
    subst (λ (e : InterfaceDecl). IsEnabled of e.gates → InsideGivesOnce of e.items.items) same (h is of on)) c.interface_gives_once.ensures

pub returns-in_default : goal.returns-in_default
returns-in_default c = λ is of on d at. absurd (c.in_default.not-Interface d at)
