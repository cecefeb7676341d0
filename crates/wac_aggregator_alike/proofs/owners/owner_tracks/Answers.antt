use Rattle.std.proofs.Common.{◌≡◌, Some, take, length, slice_get, refl, sym, arith}
use Rattle.std.proofs.lemmas.List.{take_all}
use Rattle.std.proofs.lemmas.Option.{slice_get_read}
use Rattle.wac_aggregator_alike.proofs.Tracks.{AreTracks-none, AreTracks-next, not_all_identified}
use Rattle.wac_aggregator_alike.proofs.owners.owner_tracks.Goals as goal

pub loop-id-init : goal.loop-id-init
loop-id-init c = rw c.new-tracks.ensures.empty (AreTracks-none c.args.types.now)

pub note_track-requires : goal.note_track-requires
note_track-requires c = c.requires c.id-item.result (c.loop-id.id-index, c.loop-id-test.true, sym c.id-item.is)

pub loop-id-preserved : goal.loop-id-preserved
loop-id-preserved c =
    let at : slice_get c.args.resources.now c.loop-id.id-index ≡ Some c.id-item.result = slice_get_read c.args.resources.now (length c.args.resources.now) c.loop-id.id-index c.id-item.result refl c.loop-id-test.true c.id-item.is in
    AreTracks-next c.args.types.now c.args.resources.now c.loop-id.id-index c.id-item.result at c.loop-id.tracks.keys c.note_track.new.tracks.keys c.loop-id.invariant (c.in_ok-note_track.ensures.identified.0 c.if-not-branch.false) (c.in_ok-note_track.ensures.tracks c.if-not-branch.false)

pub returns-then-not-branch : goal.returns-then-not-branch
returns-then-not-branch c =
    not_all_identified c.args.types.now c.args.resources.now c.id-item.result (c.loop-id.id-index, c.loop-id-test.true, sym c.id-item.is) (λ h. let is = c.in_ok-note_track.ensures.identified.1 h in absurd (cc))

pub returns : goal.returns
returns c =
    let all : take c.loop-id.id-index c.args.resources.now ≡ c.args.resources.now = take_all c.loop-id.id-index c.args.resources.now (omega arith) in
    rw all at c.loop-id.invariant
