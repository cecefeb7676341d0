use Rattle.std.proofs.Common.{take}
use Rattle.wac_wit_changes.specs.Sides.{KnowsPackages}
use Rattle.wac_wit_changes.proofs.tracks.NewPackages.new.Given as goal

abbrev pub invariant-loop-index : goal.invariant-loop-index
invariant-loop-index l = KnowsPackages (take l.index l.packages) l.known
