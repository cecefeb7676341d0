use Rattle.indexmap.specs.IndexMap.{get_by_text}
use Rattle.wac_wit_validation_names.specs.Ambiguity.{item_use_name}
use Rattle.wac_wit_validation_names.proofs.AmbiguityFacts.{NotesBelow-end, NotesBelow-more, NotesBelow-none}
use Rattle.wac_wit_validation_names.proofs.ambiguity.note_uses.Goals as goal

pub loop-item-init : goal.loop-item-init
loop-item-init c = NotesBelow-none item_use_name c.args.index c.args.items.now (get_by_text c.args.uses.now)

pub loop-item-preserved : goal.loop-item-preserved
loop-item-preserved c =
    NotesBelow-more item_use_name c.args.index c.args.items.now (get_by_text c.loop-item.uses) (get_by_text c.note_use.new.uses) c.loop-item.item c.index-items-item.result c.loop-item-test.true c.index-items-item.is
    (c.in_ok-note_use.ensures.grows c.if-not-branch.false) (c.in_ok-note_use.ensures.notes c.if-not-branch.false) c.loop-item.invariant

pub returns : goal.returns
returns c = λ is. NotesBelow-end item_use_name c.args.index c.args.items.now (get_by_text c.loop-item.uses) c.loop-item.item c.loop-item-test.false c.loop-item.invariant
