use Rattle.wac_component.specs.Key.{Stands, item_keys}
use Rattle.wac_script_entries.proofs.Standing.{stand_more}
use Rattle.wac_script_entries.proofs.contents.add_item.Goals as goal

pub returns-in-None : goal.returns-in-None
returns-in-None c = stand_more (Stands c.args.types.now) item_keys (λ k. k) c.args.kinds.now.entries c.insert.new.self.entries c.in_ok-key.key c.in_ok-kind.kind c.requires c.in_ok-insert.ensures.entries c.in_ok-kind.ensures
