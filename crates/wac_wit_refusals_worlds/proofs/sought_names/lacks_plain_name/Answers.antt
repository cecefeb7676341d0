use Rattle.wac_wit_scopes.specs.WitSources.{ident_text}
use Rattle.wac_wit_syntax.specs.declared.tree.WorldItem.{WorldItem}
use Rattle.wac_wit_scopes.proofs.ScopeFacts.{All-end, All-next}
use Rattle.wac_wit_refusals_worlds.specs.Includes.{GivesPlainName, IsWorldItemEnabled}
use Rattle.wac_wit_refusals_sites.proofs.Walks.{not_so}
use Rattle.wac_wit_refusals_worlds.proofs.sought_names.lacks_plain_name.Goals as goal
use Rattle.wac_wit_refusals_worlds.proofs.sought_names.lacks_plain_name.Goals.{else-gives_plain_name-via-then-gives_plain_name+else-is_world_item_there, else-gives_plain_name-via-else-gives_plain_name}

pub loop-item-preserved : goal.loop-item-preserved
loop-item-preserved c = λ of judges.
    let P : WorldItem → Type 0 = λ t. GivesPlainName t (ident_text c.args.name.now) → IsWorldItemEnabled of t → ⊥ in
    All-next c.args.items.now c.loop-item.item-index P P c.item-item.result c.loop-item-test.true c.item-item.is (λ t h. h) (c.loop-item.invariant of judges)
    (λ gives there. elim c.else-gives_plain_name.branch [
      | else-gives_plain_name-via-then-gives_plain_name+else-is_world_item_there w ↦ not_so _ w.is_world_item_there.result w.if-is_world_item_there.false (w.is_world_item_there.ensures of judges) there
      | else-gives_plain_name-via-else-gives_plain_name w ↦ not_so _ c.gives_plain_name.result w.if-gives_plain_name.false c.gives_plain_name.ensures gives
    ])

pub returns : goal.returns
returns c = λ is of judges. All-end c.args.items.now c.loop-item.item-index (λ (t : WorldItem). GivesPlainName t (ident_text c.args.name.now) → IsWorldItemEnabled of t → ⊥) c.loop-item-test.false (c.loop-item.invariant of judges)
