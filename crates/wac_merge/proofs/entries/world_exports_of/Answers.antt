use Rattle.std.proofs.Common.{sym}
use Rattle.wac_component.specs.Content.{world_content}
use Rattle.wac_merge.proofs.ReadLemmas.{world_at, world_exports_are}
use Rattle.wac_merge.proofs.entries.world_exports_of.Goals as goal

pub returns : goal.returns
returns c =
    let e = world_content c.index.result.now in
    sym (world_exports_are c.args.types.now c.args.id e (world_at c.args.types.now c.args.id e c.index.ensures.entry))
