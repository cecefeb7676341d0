use Rattle.std.proofs.Common.{◌≡◌, Some, refl, subst}
use Rattle.wac_aggregator_imports.specs.Import.{ImportContent, import_of, IsImportNoted}
use Rattle.wac_aggregator.proofs.Calls.{still_found, is_merged}
use Rattle.wac_aggregator.proofs.noting.note_import.Goals as goal

pub note-requires : goal.note-requires
note-requires c = record { of = c.requires.of; found = still_found c.args.state.now c.merge_items.new.state c.merge_items.new.state c.merge_items.ensures.same refl c.args.class c.requires.found }

pub returns-in_ok-note-in-Ok-clause-merged : goal.returns-in_ok-note-in-Ok-clause-merged
returns-in_ok-note-in-Ok-clause-merged c =
    let m = c.merge_items.new.state in
    let b = c.note.new.state in
    is_merged c.args.state.now m b c.merge_items.ensures.same c.note.ensures.same c.args.name.now c.args.existing c.args.own c.in-Ok.met c.in-Ok.ensures.met
    (subst (λ q. (i : ImportContent) → import_of m.imports q ≡ Some i → IsImportNoted m.imports b.imports q i.0 c.args.name.now c.in-Ok.met) c.requires.of c.in_ok-note-in-Ok.ensures.noted)
