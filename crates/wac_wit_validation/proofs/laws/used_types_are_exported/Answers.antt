use Rattle.wac_wit_validation_types.proofs.LawFacts.{used_type_exported}
use Rattle.wac_wit_validation.proofs.laws.used_types_are_exported.Goals as goal

pub returns : goal.returns
returns c = used_type_exported
