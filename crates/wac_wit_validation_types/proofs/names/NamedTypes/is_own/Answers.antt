use Rattle.std.proofs.Common.{sym, ◌∙◌}
use Rattle.wac_component.proofs.IdLemmas.{is_same-true}
use Rattle.wac_wit_validation_types.specs.Denoted.{handle, owned}
use Rattle.wac_wit_validation_types.proofs.names.NamedTypes.is_own.Goals as goal

pub returns-in-Some-Own-clause-named : goal.returns-in-Some-Own-clause-named
returns-in-Some-Own-clause-named c = λ same s all. rw (c.in-Some-Own.is-1, is_same-true c.in-Some-Own.of c.in-Some-Own.id.now (sym c.eq.ensures ∙ same)) (handle (c.in-Some-Own.ensures s all))

pub returns-in-Some-Own-clause-owned : goal.returns-in-Some-Own-clause-owned
returns-in-Some-Own-clause-owned c = λ same s all. rw (c.in-Some-Own.is-1, is_same-true c.in-Some-Own.of c.in-Some-Own.id.now (sym c.eq.ensures ∙ same)) (owned (c.in-Some-Own.ensures s all))
