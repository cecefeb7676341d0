use Rattle.std.proofs.Common.{take}
use Rattle.wac_aggregator_alike.specs.Parts.{AreTracks}
use Rattle.wac_aggregator_alike.proofs.owners.owner_tracks.Given as goal

abbrev pub invariant-loop-id : goal.invariant-loop-id
invariant-loop-id l = AreTracks l.types (take l.id-index l.resources) l.tracks.keys
