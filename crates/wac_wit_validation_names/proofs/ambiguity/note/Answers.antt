use Rattle.std.proofs.Common.{string_bytes, Some, sym, ◌∙◌}
use Rattle.std.proofs.lemmas.Map.Text.{hash_map_updates_text}
use Rattle.indexmap.specs.IndexMap.{get_by_text}
use Rattle.wac_wit_validation_names.proofs.AmbiguityFacts.{KeepsNoted-new, none_told, noted_at}
use Rattle.wac_wit_validation_names.proofs.ambiguity.note.Goals as goal

pub returns-clause-grows : goal.returns-clause-grows
returns-clause-grows o c = λ is.
    let old = c.args.noted.now in
    let new = c.insert.new.self in
    let key = string_bytes c.args.key in
    KeepsNoted-new (get_by_text old) (get_by_text new) key c.args.place (hash_map_updates_text key old new (Some c.args.place) c.in_ok-insert.ensures.updates)
    (sym c.in_ok-insert.ensures.old ∙ none_told c.in_ok-insert.field-0 c.is_none.result c.is_none.ensures is)

pub returns-clause-notes : goal.returns-clause-notes
returns-clause-notes o c = λ is.
    let old = c.args.noted.now in
    let new = c.insert.new.self in
    let key = string_bytes c.args.key in
    noted_at (get_by_text old) (get_by_text new) key c.args.place (hash_map_updates_text key old new (Some c.args.place) c.in_ok-insert.ensures.updates)
