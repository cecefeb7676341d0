use Rattle.std.proofs.Common.{Contains, subst}
use Rattle.wac_aggregator_imports.specs.Left.{imports_left}
use Rattle.wac_aggregator_imports.specs.declared.imports.Imports.{Imports}
use Rattle.wac_script_session.proofs.Handed.{yielded_among}
use Rattle.wac_script_session.proofs.imports.push_imports.Goals as goal

pub push_import-requires : goal.push_import-requires
push_import-requires c =
    rw c.types.ensures
    (c.imports-name-items.ensures.standing c.in-Some.name.now c.in-Some.kind
    (subst (λ (it : Imports). Contains (imports_left it) (c.in-Some.name.now, c.in-Some.kind)) c.into_iter-name-iterator.ensures.into_iter_gives
    (yielded_among (λ p. (p.0.now, p.1)) imports_left _ _ c.next.new.self c.loop-name.yielded _ (c.in-Some.name, c.in-Some.kind) c.loop-name.yielded_by c.in-Some.is c.next.ensures.steps)))
