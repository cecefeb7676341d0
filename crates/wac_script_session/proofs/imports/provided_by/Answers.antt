use Rattle.std.proofs.Common.{Contains, subst}
use Rattle.wac_aggregator_imports.specs.Left.{imports_left}
use Rattle.wac_aggregator_imports.specs.declared.imports.Imports.{Imports}
use Rattle.wac_script_session.proofs.Handed.{yielded_among}
use Rattle.wac_script_session.proofs.imports.provided_by.Goals as goal

pub push_kind-requires-clause-kind : goal.push_kind-requires-clause-kind
push_kind-requires-clause-kind c =
    rw c.types.ensures
    (c.imports-kind-items.ensures.standing c.in-Some.field-0-0.now c.in-Some.kind
    (subst (λ (it : Imports). Contains (imports_left it) (c.in-Some.field-0-0.now, c.in-Some.kind)) c.into_iter-kind-iterator.ensures.into_iter_gives
    (yielded_among (λ p. (p.0.now, p.1)) imports_left _ _ c.next.new.self c.loop-kind.yielded _ (c.in-Some.field-0-0, c.in-Some.kind) c.loop-kind.yielded_by c.in-Some.is c.next.ensures.steps)))
