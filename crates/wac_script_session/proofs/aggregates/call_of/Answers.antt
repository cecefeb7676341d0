use Rattle.std.proofs.Common.{ap, ◌∙◌}
use Rattle.wac_script_session.specs.Collections.{collection_at}
use Rattle.wac_script_session.proofs.aggregates.call_of.Goals as goal

pub returns-in-Ok : goal.returns-in-Ok
returns-in-Ok c = record {
  found = ap (collection_at c.args.collections.now) c.in_ok-types.ensures.numbered ∙ c.in_ok-types.ensures.found;
  stands = c.in-Ok.ensures;
}
