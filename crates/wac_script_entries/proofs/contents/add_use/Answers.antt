use Rattle.wac_component.specs.Key.{Stands, use_keys}
use Rattle.wac_component.specs.Content.{use_content}
use Rattle.wac_script_entries.proofs.Standing.{stand_more, on_ok}
use Rattle.wac_script_entries.proofs.contents.add_use.Goals as goal

pub returns : goal.returns
returns c = on_ok c.match-branch-5.result _ (stand_more (Stands c.args.types.now) use_keys use_content c.args.found.now.entries c.insert.new.self.entries c.in_ok-key.key c.in_ok-used.used c.requires c.in_ok-insert.ensures.entries c.in_ok-used.ensures)
