use Rattle.wac_component.specs.Key.{Stands, value_keys, optional_keys}
use Rattle.wac_script_entries.proofs.Standing.{stand_more}
use Rattle.wac_script_entries.proofs.definitions.add_case.Goals as goal

pub returns-in-None : goal.returns-in-None
returns-in-None c = stand_more (Stands c.args.types.now) (optional_keys value_keys) (λ t. t) c.args.cases.now.entries c.insert.new.self.entries c.in_ok-key.key c.in_ok-ty.ty c.requires c.in_ok-insert.ensures.entries c.in_ok-ty.ensures
