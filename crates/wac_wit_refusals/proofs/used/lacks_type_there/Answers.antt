use Rattle.wac_wit_scopes.specs.WitSources.{ident_text}
use Rattle.wac_wit_syntax.specs.declared.tree.InterfaceItem.{InterfaceItem}
use Rattle.wac_wit_scopes.proofs.ScopeFacts.{All-end, All-next}
use Rattle.wac_wit_refusals.specs.UsedReasons.{GivesTypeName, IsInsideEnabled}
use Rattle.wac_wit_refusals_sites.proofs.Walks.{not_so}
use Rattle.wac_wit_refusals.proofs.used.lacks_type_there.Goals as goal
use Rattle.wac_wit_refusals.proofs.used.lacks_type_there.Goals.{else-gives_type-via-then-gives_type+else-is_inside_there, else-gives_type-via-else-gives_type}

pub loop-item-preserved : goal.loop-item-preserved
loop-item-preserved c = λ of judges.
    let P : InterfaceItem → Type 0 = λ t. GivesTypeName t (ident_text c.args.name.now) → IsInsideEnabled of t → ⊥ in
    All-next c.args.items.now c.loop-item.item-index P P c.item-item.result c.loop-item-test.true c.item-item.is (λ t h. h) (c.loop-item.invariant of judges)
    (λ gives there. elim c.else-gives_type.branch [
      | else-gives_type-via-then-gives_type+else-is_inside_there w ↦ not_so _ w.is_inside_there.result w.if-is_inside_there.false (w.is_inside_there.ensures of judges) there
      | else-gives_type-via-else-gives_type w ↦ not_so _ c.gives_type.result w.if-gives_type.false c.gives_type.ensures gives
    ])

pub returns : goal.returns
returns c = λ is of judges. All-end c.args.items.now c.loop-item.item-index (λ (t : InterfaceItem). GivesTypeName t (ident_text c.args.name.now) → IsInsideEnabled of t → ⊥) c.loop-item-test.false (c.loop-item.invariant of judges)
