use Rattle.std.proofs.Common.{◌∙◌}
use Rattle.wac_wit_validation.proofs.WorldFacts.{is_false, no_item, not_true, some_item}
use Rattle.wac_wit_validation.proofs.includes.has_any.Goals as goal

pub returns-clause-some : goal.returns-clause-some
returns-clause-some c = λ is. some_item c.args.renames.now (not_true c.is_empty.result is ∙ c.is_empty.ensures)

pub returns-clause-none : goal.returns-clause-none
returns-clause-none c = λ r among. is_false c.is_empty.result (λ none. no_item c.args.renames.now r (none ∙ c.is_empty.ensures) among)
