use Rattle.std.proofs.Common.{◌∙◌, string_bytes}
use Rattle.wac_checker_parts.proofs.Lookups.{get_named}
use Rattle.wac_checker_parts.proofs.composites.named_at.Goals as goal

pub returns : goal.returns
returns c = c.get.ensures.value ∙ get_named c.args.externs.now.entries (string_bytes c.args.name.now)
