use Rattle.std.proofs.Common.{Contains, ◌↔◌, ◌⊎◌, ◌≡◌, Some, List, sym, subst, ◌∙◌}
use Rattle.wac_component.specs.Entries.{owner_at}
use Rattle.wac_names.specs.Class.{Class}
use Rattle.wac_aggregator_alike.specs.Alike.{IsTrackAmong}
use Rattle.wac_aggregator_alike.proofs.Tracks.{tracks_owned}
use Rattle.wac_aggregator_alike.proofs.owners.note_track.Goals as goal

pub returns-clause-tracks : goal.returns-clause-tracks
returns-clause-tracks c = λ _ t.
    subst (λ (ts : List Class). Contains ts t ↔ (Contains c.args.tracks.now.keys t ⊎ IsTrackAmong c.args.types.now (λ o. owner_at c.args.types.now c.args.id ≡ Some o) t)) (sym c.in_ok-insert.ensures.keys)
    (tracks_owned c.args.types.now c.args.id c.in-Some.owner c.in-Some-2.track (sym c.in-Some.ensures.owner) (sym c.in_ok-track.ensures ∙ c.in-Some-2.is) c.args.tracks.now.keys t)
