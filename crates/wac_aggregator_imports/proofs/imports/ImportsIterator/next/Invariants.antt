use Rattle.std.proofs.Common.{◌≡◌, length}
use Rattle.std.specs.Slice.Iter.{iter_rest}
use Rattle.wac_aggregator_imports.specs.Left.{imports_left}
use Rattle.wac_aggregator_imports.proofs.imports.ImportsIterator.next.Given as goal

abbrev pub invariant-loop-place : goal.invariant-loop-place
invariant-loop-place l = imports_left l.self ≡ imports_left l.fn.self

abbrev pub decreases-loop-place : goal.decreases-loop-place
decreases-loop-place l = length (iter_rest l.self.places)
