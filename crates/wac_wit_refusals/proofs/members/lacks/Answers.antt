use Rattle.std.proofs.Common.{◌≡◌, Some}
use Rattle.wac_wit_refusals_sites.specs.Paths.{name_of_item}
use Rattle.wac_wit_scopes.specs.WitSources.{ident_text}
use Rattle.wac_wit_syntax.specs.declared.tree.TopItem.{TopItem}
use Rattle.wac_wit_scopes.proofs.ScopeFacts.{All-end, All-next}
use Rattle.wac_wit_refusals_sites.proofs.Walks.{not_so}
use Rattle.wac_wit_refusals.proofs.members.lacks.Goals as goal

pub loop-item-preserved : goal.loop-item-preserved
loop-item-preserved c =
    let P : TopItem → Type 0 = λ t. name_of_item t ≡ Some (ident_text c.args.name.now) → ⊥ in
    All-next c.args.items.now c.loop-item.item-index P P c.item-item.result c.loop-item-test.true c.item-item.is (λ t h. h) c.loop-item.invariant (not_so _ c.is_member.result c.if-is_member.false c.is_member.ensures)

pub returns : goal.returns
returns c = λ is. All-end c.args.items.now c.loop-item.item-index (λ (t : TopItem). name_of_item t ≡ Some (ident_text c.args.name.now) → ⊥) c.loop-item-test.false c.loop-item.invariant
