use Rattle.std.proofs.Common.{sym}
use Rattle.wac_component.specs.Content.{interface_content}
use Rattle.wac_merge.proofs.ReadLemmas.{interface_at, interface_exports_are}
use Rattle.wac_merge.proofs.entries.exports_of.Goals as goal

pub returns : goal.returns
returns c =
    let e = interface_content c.index.result.now in
    sym (interface_exports_are c.args.types.now c.args.id e (interface_at c.args.types.now c.args.id e c.index.ensures.entry))
