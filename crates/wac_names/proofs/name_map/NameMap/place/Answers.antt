use Rattle.std.proofs.Common.{ap, ◌∙◌, List}
use Rattle.indexmap.specs.IndexMap.{insert_entry}
use Rattle.wac_names.proofs.name_map.NameMap.place.Goals as goal

pub returns-clause-ok : goal.returns-clause-ok
returns-clause-ok g c =
    let law = g.met.I.NameMapIntern.lawful c.note_name.new.cx in
    let own = c.note_name.ensures.extends c.args.name.now c.in_ok-key.key c.in_ok-key.ensures.key in
    let same = c.requires.clones _ _ c.in_ok-stored.ensures.cases in
    let placed = rw c.unwrap.ensures at c.insert.ensures.entries in
    record { key = c.in_ok-stored.stored; own = law.same_key _ _ _ own same; placed = placed ∙ ap (λ (es : List (g.row.K.Denot × g.row.V.Denot)). insert_entry g.K.PartialEq.eq es c.in_ok-stored.stored c.args.item) c.reserve.ensures.entries; noted = c.in_ok-note_name.ensures.ok }
