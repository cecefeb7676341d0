use Rattle.std.proofs.Common.{sym, ◌∙◌, string_bytes}
use Rattle.wac_checker_parts.proofs.Lookups.{get_named}
use Rattle.wac_checker_parts.proofs.leaves.entry_at.Goals as goal

pub returns-clause-by_name : goal.returns-clause-by_name
returns-clause-by_name g c = sym (get_named c.args.entries.now.entries (string_bytes c.unwrap.result.0.now)) ∙ (rw c.unwrap.ensures at c.get_index.ensures.value)
