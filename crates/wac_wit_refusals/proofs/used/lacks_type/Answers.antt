use Rattle.wac_wit_scopes.specs.WitSources.{ident_text}
use Rattle.wac_wit_syntax.specs.declared.tree.InterfaceItem.{InterfaceItem}
use Rattle.wac_wit_scopes.proofs.ScopeFacts.{All-end, All-next}
use Rattle.wac_wit_refusals.specs.UsedReasons.{GivesTypeName}
use Rattle.wac_wit_refusals_sites.proofs.Walks.{not_so}
use Rattle.wac_wit_refusals.proofs.used.lacks_type.Goals as goal

pub loop-item-preserved : goal.loop-item-preserved
loop-item-preserved c =
    let P : InterfaceItem → Type 0 = λ t. GivesTypeName t (ident_text c.args.name.now) → ⊥ in
    All-next c.args.items.now c.loop-item.item-index P P c.item-item.result c.loop-item-test.true c.item-item.is (λ t h. h) c.loop-item.invariant (not_so _ c.gives_type.result c.if-gives_type.false c.gives_type.ensures)

pub returns : goal.returns
returns c = λ is. All-end c.args.items.now c.loop-item.item-index (λ (t : InterfaceItem). GivesTypeName t (ident_text c.args.name.now) → ⊥) c.loop-item-test.false c.loop-item.invariant
