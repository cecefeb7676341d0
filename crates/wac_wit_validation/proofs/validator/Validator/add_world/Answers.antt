use Rattle.wac_wit_validation.proofs.WorldFacts.{KeepsFound-trans}
use Rattle.wac_wit_validation.proofs.validator.Validator.add_world.Goals as goal

pub returns-clause-keeps : goal.returns-clause-keeps
returns-clause-keeps c = KeepsFound-trans c.args.self.now c.note_includes.new.self c.add_noted.new.self c.note_includes.ensures.found c.add_noted.ensures.keeps
