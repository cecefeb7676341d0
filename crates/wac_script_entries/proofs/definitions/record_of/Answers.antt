use Rattle.wac_component.specs.Key.{Stands}
use Rattle.wac_script_entries.proofs.Standing.{stand_types}
use Rattle.wac_script_entries.proofs.definitions.record_of.Goals as goal

pub returns : goal.returns
returns c = stand_types (Stands c.args.types.now) c.in_ok-fields.fields.entries c.in_ok-fields.ensures
