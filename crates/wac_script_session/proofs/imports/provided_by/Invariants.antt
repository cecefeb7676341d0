use Rattle.wac_script_session.specs.Provided.{AreProvided}
use Rattle.wac_script_session.proofs.imports.provided_by.Given as goal

abbrev pub invariant-loop-kind : goal.invariant-loop-kind
invariant-loop-kind l =
    (goal.iterator-loop-kind).can_next l.kind-iterator ×
    (goal.iterator-loop-kind).is_finite l.kind-iterator ×
    AreProvided l.aggregator.types l.provided.items
