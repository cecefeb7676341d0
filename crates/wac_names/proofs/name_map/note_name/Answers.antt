use Rattle.wac_names.proofs.Standing.{notes_name_ok, track_known_ok}
use Rattle.wac_names.proofs.name_map.note_name.Goals as goal

pub returns-in_default-clause-track : goal.returns-in_default-clause-track
returns-in_default-clause-track g c = λ track h. absurd ((rw c.in_default.is at c.in_ok-track.ensures.key) track h.0 h.1)

pub returns-clause-track : goal.returns-clause-track
returns-clause-track g c =
    let here = rw c.in-Some.is at c.in_ok-track.ensures.key in
    track_known_ok c.note.result _ c.args.name.now _ _ c.in_ok-track_key.track_key here c.in_ok-track_key.ensures.key

pub returns-clause-ok : goal.returns-clause-ok
returns-clause-ok g c =
    let here = rw c.in-Some.is at c.in_ok-track.ensures.key in
    notes_name_ok c.note.result g.K.PartialEq.eq (g.I.NameMapIntern.is_key c.intern.new.self) c.args.name.now c.args.key.now _ _ c.in-Some.track.now c.in_ok-track_key.track_key (c.in_ok-lead.lead, c.in-Some.version) here
    c.in_ok-track_key.ensures.key (c.requires.clones _ _ c.in_ok-lead.ensures.cases) c.note.ensures.ok
