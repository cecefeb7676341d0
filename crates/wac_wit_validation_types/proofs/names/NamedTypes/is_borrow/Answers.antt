use Rattle.std.proofs.Common.{sym, ◌∙◌}
use Rattle.wac_component.proofs.IdLemmas.{is_same-true}
use Rattle.wac_wit_validation_types.specs.Denoted.{borrowed}
use Rattle.wac_wit_validation_types.proofs.names.NamedTypes.is_borrow.Goals as goal

pub returns-in-Some-Borrow : goal.returns-in-Some-Borrow
returns-in-Some-Borrow c = λ same s all. rw (c.in-Some-Borrow.is-1, is_same-true c.in-Some-Borrow.of c.in-Some-Borrow.id.now (sym c.eq.ensures ∙ same)) (borrowed (c.in-Some-Borrow.ensures s all))
