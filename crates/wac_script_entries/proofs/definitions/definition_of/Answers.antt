use Rattle.wac_component.specs.Key.{Stands}
use Rattle.wac_script_entries.proofs.Standing.{stand_cases}
use Rattle.wac_script_entries.proofs.definitions.definition_of.Goals as goal

pub returns-in_ok-cases_of-in-variant : goal.returns-in_ok-cases_of-in-variant
returns-in_ok-cases_of-in-variant c = stand_cases (Stands c.args.types.now) c.in_ok-cases_of-in-variant.field-0.entries c.in_ok-cases_of-in-variant.ensures
