use Rattle.wac_names.proofs.track.track_of.Goals as goal

pub returns-in_default-clause-key : goal.returns-in_default-clause-key
returns-in_default-clause-key c = λ key h. (rw c.in_default.is at c.in_ok-key.ensures.key) key h.0 h.1
