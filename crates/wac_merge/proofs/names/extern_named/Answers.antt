use Rattle.std.proofs.Common.{◌∙◌, string_bytes}
use Rattle.wac_checker_parts.proofs.Lookups.{get_named}
use Rattle.wac_merge.proofs.names.extern_named.Goals as goal

pub returns : goal.returns
returns c = c.copied.ensures ∙ c.get.ensures.value ∙ get_named c.args.externs.now.entries (string_bytes c.args.name.now)
