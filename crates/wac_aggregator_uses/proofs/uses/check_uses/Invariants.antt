use Rattle.std.proofs.Common.{map}
use Rattle.std.specs.Map.Iter.{deref_pair}
use Rattle.wac_component.specs.Content.{named, use_content}
use Rattle.wac_aggregator_uses.specs.Uses.{UsesAgree}
use Rattle.wac_aggregator_uses.proofs.uses.check_uses.Given as goal

abbrev pub invariant-loop-name : goal.invariant-loop-name
invariant-loop-name l = record {
  agree : UsesAgree l.types (named use_content l.existing.entries) (named use_content (map deref_pair l.yielded));
}
