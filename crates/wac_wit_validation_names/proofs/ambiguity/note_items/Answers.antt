use Rattle.indexmap.specs.IndexMap.{get_by_text}
use Rattle.wac_wit_validation_names.specs.Ambiguity.{item_identifier}
use Rattle.wac_wit_scopes.specs.WitSources.{package_id}
use Rattle.wac_wit_validation_names.proofs.AmbiguityFacts.{KeepsNoted-none, KeepsNoted-then, NotesBelow-end, NotesBelow-more, NotesBelow-none}
use Rattle.wac_wit_validation_names.proofs.ambiguity.note_items.Goals as goal

pub loop-item-init : goal.loop-item-init
loop-item-init c = record {
  grows = KeepsNoted-none (get_by_text c.args.noted.now);
  notes = NotesBelow-none (item_identifier (package_id c.args.scope.now.package.now)) c.args.index c.args.scope.now.items.now (get_by_text c.args.noted.now);
}

pub loop-item-preserved : goal.loop-item-preserved
loop-item-preserved c =
    let scope = c.args.scope.now in
    let first = get_by_text c.args.noted.now in
    let before = get_by_text c.loop-item.noted in
    let after = get_by_text c.note_item.new.noted in
    let grows = c.in_ok-note_item.ensures.grows c.if-not-branch.false in
    record {
      grows = KeepsNoted-then first before after c.loop-item.invariant.grows grows;
      notes = NotesBelow-more (item_identifier (package_id scope.package.now)) c.args.index scope.items.now before after c.loop-item.item c.of-item.result c.loop-item-test.true c.of-item.is grows (c.in_ok-note_item.ensures.notes c.if-not-branch.false) c.loop-item.invariant.notes;
    }

pub returns-clause-grows : goal.returns-clause-grows
returns-clause-grows c = λ is. c.loop-item.invariant.grows

pub returns-clause-notes : goal.returns-clause-notes
returns-clause-notes c = λ is. NotesBelow-end (item_identifier (package_id c.args.scope.now.package.now)) c.args.index c.args.scope.now.items.now (get_by_text c.loop-item.noted) c.loop-item.item c.loop-item-test.false c.loop-item.invariant.notes
