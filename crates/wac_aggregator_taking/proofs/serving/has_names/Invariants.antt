use Rattle.std.proofs.Common.{◌≡◌, [], map}
use Rattle.std.specs.Map.Iter.{deref_pair}
use Rattle.wac_aggregator_taking.proofs.ServingLemmas.{new_uses}
use Rattle.wac_aggregator_taking.proofs.serving.has_names.Given as goal

abbrev pub invariant-loop-name : goal.invariant-loop-name
invariant-loop-name l = new_uses l.existing.entries (map deref_pair l.yielded) ≡ []
