use Rattle.std.proofs.Common.{sym, ◌∙◌}
use Rattle.wac_wit_validation_types.specs.Denoted.{name}
use Rattle.wac_wit_validation_types.proofs.ValueFacts.{value_exact}
use Rattle.wac_wit_validation_types.proofs.names.NamedTypes.is_name.Goals as goal

pub returns-in-Some : goal.returns-in-Some
returns-in-Some c = λ same s all. rw (value_exact c.args.of.now c.in-Some.ty.now (sym c.eq.ensures ∙ same)) (name (c.in-Some.ensures s all))
