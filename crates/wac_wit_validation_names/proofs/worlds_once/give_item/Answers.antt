use Rattle.std.proofs.Common.{sym, subst}
use Rattle.std.proofs.lemmas.Result.{IfOk-weaker}
use Rattle.indexmap.specs.IndexMap.{get_by_text}
use Rattle.wac_component.specs.declared.worlds.ExternKind.{ExternKind}
use Rattle.wac_wit_syntax.specs.declared.tree.WorldItem.{WorldItem}
use Rattle.wac_wit_validation_names.specs.WorldOnce.{GivesItem}
use Rattle.wac_wit_validation_names.proofs.worlds_once.give_item.Goals as goal

pub returns-in-Import-Use-clause-gives : goal.returns-in-Import-Use-clause-gives
returns-in-Import-Use-clause-gives c = IfOk-weaker c.give_use.result _ _ (λ b h is of on.
    subst (λ (p : ExternKind × WorldItem). GivesItem of (get_by_text c.give_use.new.given) p.0 c.args.names.now c.args.place p.1) (λ i. (sym c.in-Import-Use.is-0 i, sym c.in-Import-Use.is-1 i)) (h is of on)) c.give_use.ensures.gives

pub returns-in-Import-Type-clause-gives : goal.returns-in-Import-Type-clause-gives
returns-in-Import-Type-clause-gives c = IfOk-weaker c.give_type.result _ _ (λ b h is of on.
    subst (λ (p : ExternKind × WorldItem). GivesItem of (get_by_text c.give_type.new.given) p.0 c.args.names.now c.args.place p.1) (λ i. (sym c.in-Import-Type.is-0 i, sym c.in-Import-Type.is-1 i)) (h is of on)) c.give_type.ensures.gives

pub returns-in-Import-Import-clause-gives : goal.returns-in-Import-Import-clause-gives
returns-in-Import-Import-clause-gives c = IfOk-weaker c.give_extern.result _ _ (λ b h is of on.
    subst (λ (p : ExternKind × WorldItem). GivesItem of (get_by_text c.give_extern.new.given) p.0 c.args.names.now c.args.place p.1) (λ i. (sym c.in-Import-Import.is-0 i, sym c.in-Import-Import.is-1 i)) (h is of on)) c.give_extern.ensures.gives

pub returns-in-Export-Export-clause-gives : goal.returns-in-Export-Export-clause-gives
returns-in-Export-Export-clause-gives c = IfOk-weaker c.give_extern-in-Export-Export.result _ _ (λ b h is of on.
    subst (λ (p : ExternKind × WorldItem). GivesItem of (get_by_text c.give_extern-in-Export-Export.new.given) p.0 c.args.names.now c.args.place p.1) (λ i. (sym c.in-Export-Export.is-0 i, sym c.in-Export-Export.is-1 i)) (h is of on)) c.give_extern-in-Export-Export.ensures.gives
